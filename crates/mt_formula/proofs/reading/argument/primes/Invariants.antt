use Rattle.std.proofs.Common.{map, ◌≡◌, ◌+◌, ◌≤◌, length}
use Rattle.mt_formula.specs.Primes.{primes}
use Rattle.mt_formula.proofs.reading.argument.primes.Given as goal

abbrev pub invariant-loop-rest : goal.invariant-loop-rest
invariant-loop-rest g l = record {
  is : primes (g.R.Roles.codes l.roles) 0 (map (g.R.Lexicon.token l.roles) l.tokens) ≡ primes (g.R.Roles.codes l.roles) l.count (map (g.R.Lexicon.token l.roles) l.rest);
  falls : l.count + length l.rest ≤ length l.tokens;
}

abbrev pub decreases-loop-rest : goal.decreases-loop-rest
decreases-loop-rest g l = length l.rest
