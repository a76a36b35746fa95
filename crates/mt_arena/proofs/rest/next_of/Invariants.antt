use Rattle.std.proofs.Common.{◌≡◌, ◌-◌}
use Rattle.mt_arena.specs.Arena.{sequence_in}
use Rattle.mt_arena.proofs.rest.next_of.Given as goal

abbrev pub invariant-loop-at : goal.invariant-loop-at
invariant-loop-at l = (l.at.end ≡ l.initial.at.end) × (sequence_in l.arena.closed l.initial.at ≡ sequence_in l.arena.closed l.at)

abbrev pub decreases-loop-at : goal.decreases-loop-at
decreases-loop-at l = l.at.end - l.at.start
