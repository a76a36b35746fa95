use Rattle.mt_display.proofs.Common.{into_iter_items, equation_row, equation_layout, equation_level}
use Rattle.mt_display.proofs.RowMaps.{Made}
use Rattle.mt_display.proofs.equations.numbered_rows.Given as goal

abbrev pub invariant-loop-row : goal.invariant-loop-row
invariant-loop-row l =
    (goal.iterator-loop-row).can_next l.row-iterator
    × (goal.iterator-loop-row).is_finite l.row-iterator
    × Made equation_level equation_layout (equation_row l.place.line.sp l.place.axis.sp l.place.left) l.fn.rows (into_iter_items l.row-iterator) l.made.items
