use Rattle.std.proofs.Common.{arith}
use Rattle.std.proofs.lemmas.Int.{ints}
use Rattle.mt_scripts.proofs.limits.limit_under.Goals as goal

pub plus-reach-requires-clause-self_small : goal.plus-reach-requires-clause-self_small
plus-reach-requires-clause-self_small c = record { low = omega (arith, ints, c.plus.ensures, c.plus-shift.ensures, c.plus-2.ensures, c.requires.depth.low, c.gap_below.ensures.small.low, c.requires.sub.height.low, c.requires.sub.depth.low); high = omega (arith, ints, c.plus.ensures, c.plus-shift.ensures, c.plus-2.ensures, c.requires.depth.high, c.gap_below.ensures.small.high, c.requires.sub.height.high, c.requires.sub.depth.high) }

pub returns-clause-small : goal.returns-clause-small
returns-clause-small c = record { low = omega (arith, ints, c.plus.ensures, c.plus-shift.ensures, c.requires.depth.low, c.gap_below.ensures.small.low, c.requires.sub.height.low); high = omega (arith, ints, c.plus.ensures, c.plus-shift.ensures, c.requires.depth.high, c.gap_below.ensures.small.high, c.requires.sub.height.high) }

pub returns-clause-near : goal.returns-clause-near
returns-clause-near c = record { low = omega (arith, ints, c.plus.ensures, c.plus-shift.ensures, c.plus-2.ensures, c.plus-reach.ensures, c.requires.depth.low, c.gap_below.ensures.small.low, c.requires.sub.height.low, c.requires.sub.depth.low, c.big_op_spacing5.ensures.small.low); high = omega (arith, ints, c.plus.ensures, c.plus-shift.ensures, c.plus-2.ensures, c.plus-reach.ensures, c.requires.depth.high, c.gap_below.ensures.small.high, c.requires.sub.height.high, c.requires.sub.depth.high, c.big_op_spacing5.ensures.small.high) }
