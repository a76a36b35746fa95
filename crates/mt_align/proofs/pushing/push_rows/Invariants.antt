use Rattle.std.proofs.Common.{drop}
use Rattle.mt_align.proofs.Pushed.{PushingRows}
use Rattle.mt_align.proofs.pushing.push_rows.Given as goal

abbrev pub invariant-loop-cells : goal.invariant-loop-cells
invariant-loop-cells l = PushingRows l.rows (drop l.cells-index l.cells-items) l.fn.marks l.marks l.extents.items
