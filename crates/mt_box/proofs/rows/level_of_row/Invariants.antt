use Rattle.std.proofs.Common.{◌≡◌, ◌≤◌, drop, length}
use Rattle.mt_box.specs.Rows.{row_level}
use Rattle.mt_box.proofs.rows.level_of_row.Given as goal

abbrev pub invariant-loop-i : goal.invariant-loop-i
invariant-loop-i l = record { within : l.i ≤ length l.pieces; level : l.level ≡ row_level (drop l.i l.pieces) }
