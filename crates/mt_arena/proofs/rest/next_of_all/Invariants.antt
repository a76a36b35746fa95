use Rattle.std.proofs.Common.{◌≡◌, ◌≤◌, length}
use Rattle.mt_arena.specs.Rest.{ranges_in, SpansWithin}
use Rattle.mt_arena.proofs.rest.next_of_all.Given as goal

abbrev pub invariant-loop-thing : goal.invariant-loop-thing
invariant-loop-thing l =
    (l.at.end ≤ length l.arena.closed) × (SpansWithin (length l.arena.closed) l.outer.items
    × (ranges_in l.arena.closed l.initial.at l.initial.outer.items ≡ ranges_in l.arena.closed l.at l.outer.items))

abbrev pub decreases-loop-thing : goal.decreases-loop-thing
decreases-loop-thing l = length l.outer.items
