use Rattle.mt_align.proofs.Joining.{JoiningCells}
use Rattle.mt_align.proofs.placing.place_cells.Given as goal

abbrev pub invariant-loop-column : goal.invariant-loop-column
invariant-loop-column l = JoiningCells l.fn.shape.look l.fn.shape.gap.sp l.fn.up.sp l.fn.shape.widths.items l.fn.cells l.column l.edge.sp l.fn.marks l.marks
