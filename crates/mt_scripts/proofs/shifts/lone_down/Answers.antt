use Rattle.std.proofs.Common.{arith}
use Rattle.std.proofs.lemmas.Int.{ints, clamps}
use Rattle.mt_scripts.proofs.shifts.lone_down.Goals as goal

pub returns-clause-small : goal.returns-clause-small
returns-clause-small c = record { low = omega (arith, ints, clamps); high = omega (arith, ints, clamps) }

pub returns-clause-near : goal.returns-clause-near
returns-clause-near c = λ down sub. record { low = omega (arith, ints, clamps, down.low, down.high, sub.height); high = omega (arith, ints, clamps, down.low, down.high, sub.height) }
