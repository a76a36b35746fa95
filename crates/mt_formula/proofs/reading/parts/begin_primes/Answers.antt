use Rattle.std.proofs.Common.{◌∙◌}
use Rattle.mt_formula.proofs.Arenas.{prime_inside, prime_pushed}
use Rattle.mt_formula.proofs.reading.parts.begin_primes.Goals as goal

pub loop-put-preserved : goal.loop-put-preserved
loop-put-preserved c =
    let p = rw (c.prime_noad.ensures) at c.in_ok-push.ensures.is in
    record {
      opens = record { closed = c.in_ok-push.ensures.closed ∙ c.loop-put.invariant.opens.closed; below = c.in_ok-push.ensures.below ∙ c.loop-put.invariant.opens.below };
      is = prime_pushed _ _ c.loop-put._put p c.loop-put.invariant.is;
      inside = prime_inside _ _ p c.loop-put.invariant.inside;
    }
