use Rattle.std.proofs.Common.{◌≡◌, ◌≤◌, drop, length}
use Rattle.mt_parts.specs.LineColumns.{boxes_level}
use Rattle.mt_parts.proofs.centred.level_over.Given as goal

abbrev pub invariant-loop-i : goal.invariant-loop-i
invariant-loop-i l = record { within : l.i ≤ length l.rows; level : l.level ≡ boxes_level (drop l.i l.rows) }
