use Rattle.std.proofs.Common.{arith}
use Rattle.std.proofs.lemmas.Int.{ints, clamps}
use Rattle.mt_scripts.proofs.shifts.lone_up.Goals as goal

pub returns-clause-small : goal.returns-clause-small
returns-clause-small c = record { low = omega (arith, ints, clamps); high = omega (arith, ints, clamps) }

pub returns-clause-near : goal.returns-clause-near
returns-clause-near c = λ up sup. record { low = omega (arith, ints, clamps, up.low, up.high, sup.depth); high = omega (arith, ints, clamps, up.low, up.high, sup.depth) }
