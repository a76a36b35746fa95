use Rattle.std.proofs.Common.{◌≡◌, ◌≤◌, drop, length}
use Rattle.mt_parts.specs.LineLayers.{lines_reach, widest}
use Rattle.mt_parts.proofs.centred.measured.Given as goal

abbrev pub invariant-loop-i : goal.invariant-loop-i
invariant-loop-i l = record {
  within : l.i ≤ length l.rows;
  width : l.reach.width.sp ≡ widest (drop l.i l.rows);
  total : l.reach.total.sp ≡ lines_reach (drop l.i l.rows);
}
