use Rattle.std.proofs.Common.{◌≤◌, drop, length}
use Rattle.mt_box.proofs.Packing.{Reaching}
use Rattle.mt_box.proofs.rows.row_reach.Given as goal

abbrev pub invariant-loop-i : goal.invariant-loop-i
invariant-loop-i l = record { within : l.i ≤ length l.pieces; reaching : Reaching (drop l.i l.pieces) l.reach }
