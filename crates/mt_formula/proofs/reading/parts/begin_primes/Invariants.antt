use Rattle.std.proofs.Common.{◌≡◌, true}
use Rattle.mt_arena.specs.Arena.{as_sequence}
use Rattle.mt_formula.specs.Atoms.{prime_items}
use Rattle.mt_formula.specs.reading.Inside.{are_inside}
use Rattle.mt_formula.specs.reading.Reads.{Opens}
use Rattle.mt_formula.proofs.reading.parts.begin_primes.Given as goal

abbrev pub invariant-loop-put : goal.invariant-loop-put
invariant-loop-put l = record {
  opens : Opens l.fn.arena l.arena;
  is : as_sequence l.arena.top ≡ prime_items l._put;
  inside : are_inside l.arena.top ≡ true;
}
