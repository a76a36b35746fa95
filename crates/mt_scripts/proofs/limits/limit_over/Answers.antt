use Rattle.std.proofs.Common.{arith}
use Rattle.std.proofs.lemmas.Int.{ints}
use Rattle.mt_scripts.proofs.limits.limit_over.Goals as goal

pub plus-reach-requires-clause-self_small : goal.plus-reach-requires-clause-self_small
plus-reach-requires-clause-self_small c = record { low = omega (arith, ints, c.plus.ensures, c.plus-shift.ensures, c.plus-2.ensures, c.requires.height.low, c.gap_above.ensures.small.low, c.requires.sup.depth.low, c.requires.sup.height.low); high = omega (arith, ints, c.plus.ensures, c.plus-shift.ensures, c.plus-2.ensures, c.requires.height.high, c.gap_above.ensures.small.high, c.requires.sup.depth.high, c.requires.sup.height.high) }

pub returns-clause-small : goal.returns-clause-small
returns-clause-small c = record { low = omega (arith, ints, c.plus.ensures, c.plus-shift.ensures, c.requires.height.low, c.gap_above.ensures.small.low, c.requires.sup.depth.low); high = omega (arith, ints, c.plus.ensures, c.plus-shift.ensures, c.requires.height.high, c.gap_above.ensures.small.high, c.requires.sup.depth.high) }

pub returns-clause-near : goal.returns-clause-near
returns-clause-near c = record { low = omega (arith, ints, c.plus.ensures, c.plus-shift.ensures, c.plus-2.ensures, c.plus-reach.ensures, c.requires.height.low, c.gap_above.ensures.small.low, c.requires.sup.depth.low, c.requires.sup.height.low, c.big_op_spacing5.ensures.small.low); high = omega (arith, ints, c.plus.ensures, c.plus-shift.ensures, c.plus-2.ensures, c.plus-reach.ensures, c.requires.height.high, c.gap_above.ensures.small.high, c.requires.sup.depth.high, c.requires.sup.height.high, c.big_op_spacing5.ensures.small.high) }
