use Rattle.std.proofs.Common.{drop}
use Rattle.mt_align.proofs.Rows.{Lining}
use Rattle.mt_align.proofs.lines.line_of.Given as goal

abbrev pub invariant-loop-cell : goal.invariant-loop-cell
invariant-loop-cell l = Lining l.fn.look l.cells (drop l.cell-index l.cell-items) l.line.height.sp l.line.depth.sp
