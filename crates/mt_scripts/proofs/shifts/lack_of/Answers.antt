use Rattle.std.proofs.Common.{arith}
use Rattle.std.proofs.lemmas.Int.{ints, clamps}
use Rattle.mt_scripts.proofs.shifts.lack_of.Goals as goal

pub minus-requires-2-clause-other_small : goal.minus-requires-2-clause-other_small
minus-requires-2-clause-other_small c = record { low = omega (arith, ints, clamps); high = omega (arith, ints, clamps) }

pub returns-clause-small : goal.returns-clause-small
returns-clause-small c = record { low = omega (arith, ints, clamps); high = omega (arith, ints, clamps) }

pub returns-clause-near : goal.returns-clause-near
returns-clause-near c = λ up down sup sub. record { low = omega (arith, ints, clamps, up.low, up.high, down.low, down.high, sup.depth, sub.height); high = omega (arith, ints, clamps, up.low, up.high, down.low, down.high, sup.depth, sub.height) }
