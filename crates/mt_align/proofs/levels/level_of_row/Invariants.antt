use Rattle.std.proofs.Common.{◌≡◌, ◌≤◌, drop, length}
use Rattle.mt_align.specs.Cells.{boxes_level}
use Rattle.mt_align.proofs.levels.level_of_row.Given as goal

abbrev pub invariant-loop-i : goal.invariant-loop-i
invariant-loop-i l = record { within : l.i ≤ length l.cells; level : l.level ≡ boxes_level (drop l.i l.cells) }
