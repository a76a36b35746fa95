use Rattle.std.proofs.Common.{drop}
use Rattle.mt_align.specs.RowLines.{depth_value}
use Rattle.mt_align.proofs.Rows.{GoingDown}
use Rattle.mt_align.proofs.lines.lines_below.Given as goal

abbrev pub invariant-loop-cells : goal.invariant-loop-cells
invariant-loop-cells l =
    GoingDown l.look l.fn.start.total.sp (depth_value l.fn.start.depth) l.rows (drop l.cells-index l.cells-items) l.drops.items l.so_far.total.sp l.so_far.depth
