use Rattle.std.proofs.Common.{◌≤◌, drop, length}
use Rattle.mt_box.proofs.layers.RowSums.{PartsSummed}
use Rattle.mt_box.proofs.marks.row.reach_of.Given as goal

abbrev pub invariant-loop-i : goal.invariant-loop-i
invariant-loop-i l = record { within : l.i ≤ length l.parts; sums : PartsSummed (drop l.i l.parts) l.row }
