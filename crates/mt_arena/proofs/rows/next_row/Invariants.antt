use Rattle.std.proofs.Common.{◌≡◌, ◌-◌}
use Rattle.mt_arena.specs.Arena.{rows_in}
use Rattle.mt_arena.proofs.rows.next_row.Given as goal

abbrev pub invariant-loop-rows : goal.invariant-loop-rows
invariant-loop-rows l = (l.rows.end ≡ l.initial.rows.end) × (rows_in l.arena.closed l.initial.rows ≡ rows_in l.arena.closed l.rows)

abbrev pub decreases-loop-rows : goal.decreases-loop-rows
decreases-loop-rows l = l.rows.end - l.rows.start
