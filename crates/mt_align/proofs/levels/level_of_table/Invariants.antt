use Rattle.std.proofs.Common.{◌≡◌, ◌≤◌, drop, length}
use Rattle.mt_align.specs.Cells.{table_level}
use Rattle.mt_align.proofs.levels.level_of_table.Given as goal

abbrev pub invariant-loop-i : goal.invariant-loop-i
invariant-loop-i l = record { within : l.i ≤ length l.rows; level : l.level ≡ table_level (drop l.i l.rows) }
