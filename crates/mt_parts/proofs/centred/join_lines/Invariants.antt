use Rattle.std.proofs.Common.{◌≡◌, ◌≤◌, ◌-ℤ◌, drop, length}
use Rattle.mt_parts.specs.LineLayers.{lines_joined, lines_reach}
use Rattle.mt_parts.proofs.centred.join_lines.Given as goal

abbrev pub invariant-loop-i : goal.invariant-loop-i
invariant-loop-i l = record {
  within : l.i ≤ length l.rows;
  edge : l.top.sp ≡ lines_reach (drop l.i l.rows) -ℤ l.fn.whole.depth;
  marks : l.marks ≡ lines_joined l.top.sp (drop l.i l.rows) l.fn.marks;
}
