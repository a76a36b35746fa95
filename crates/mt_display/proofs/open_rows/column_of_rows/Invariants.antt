use Rattle.mt_display.proofs.Common.{into_iter_items}
use Rattle.mt_display.proofs.OpenRows.{Opened}
use Rattle.mt_display.proofs.open_rows.column_of_rows.Given as goal

abbrev pub invariant-loop-row : goal.invariant-loop-row
invariant-loop-row l =
    (goal.iterator-loop-row).can_next l.row-iterator
    × (goal.iterator-loop-row).is_finite l.row-iterator
    × Opened l.fn.line.sp l.fn.rows (into_iter_items l.row-iterator) l.entries.items l.reach.total.sp l.reach.depth
