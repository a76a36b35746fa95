use Rattle.mt_align.proofs.ColumnWidths.{Reaching}
use Rattle.mt_align.proofs.widths.columns_reach.Given as goal

abbrev pub invariant-loop-i : goal.invariant-loop-i
invariant-loop-i l = Reaching l.gap.sp l.widths l.i l.end.sp
