use Rattle.mt_display.proofs.Common.{into_iter_items, BoxValue, layout_of, centred_row}
use Rattle.mt_display.proofs.RowMaps.{Made}
use Rattle.mt_display.proofs.rows.centred_rows.Given as goal

abbrev pub invariant-loop-row : goal.invariant-loop-row
invariant-loop-row l =
    (goal.iterator-loop-row).can_next l.row-iterator
    × (goal.iterator-loop-row).is_finite l.row-iterator
    × Made (λ (b : BoxValue). b.level) layout_of (centred_row l.line.sp) l.fn.rows (into_iter_items l.row-iterator) l.made.items
