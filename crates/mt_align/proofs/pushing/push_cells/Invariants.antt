use Rattle.std.proofs.Common.{drop}
use Rattle.mt_align.proofs.Pushed.{PushingCells}
use Rattle.mt_align.proofs.pushing.push_cells.Given as goal

abbrev pub invariant-loop-cell : goal.invariant-loop-cell
invariant-loop-cell l = PushingCells l.cells (drop l.cell-index l.cell-items) l.fn.marks l.marks l.extents.items
