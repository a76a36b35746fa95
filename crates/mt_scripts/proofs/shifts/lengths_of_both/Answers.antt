use Rattle.std.proofs.Common.{arith, ◌^◌}
use Rattle.std.proofs.lemmas.Int.{ints, clamps}
use Rattle.mt_scaled.specs.Number.{Within}
use Rattle.mt_scripts.proofs.shifts.lengths_of_both.Goals as goal

pub plus-requires-2-clause-self_small : goal.plus-requires-2-clause-self_small
plus-requires-2-clause-self_small c = record { low = omega (arith, ints, clamps); high = omega (arith, ints, clamps) }

pub minus-requires-clause-self_small : goal.minus-requires-clause-self_small
minus-requires-clause-self_small c = record { low = omega (arith, ints, clamps); high = omega (arith, ints, clamps) }

pub returns-clause-down_small : goal.returns-clause-down_small
returns-clause-down_small c = record { low = omega (arith, ints, clamps); high = omega (arith, ints, clamps) }

pub returns-clause-down_near : goal.returns-clause-down_near
returns-clause-down_near c = λ first_up first_down sup sub.
    let up : Within (2 ^ 34) c.lone_up-up.result.sp = c.lone_up-up.ensures.near first_up sup in
    let down : Within (2 ^ 34) c.at_least-down.result.sp = record { low = omega (arith, ints, clamps, first_down.low); high = omega (arith, ints, clamps, first_down.high) } in
    let lack : Within (2 ^ 36) c.lack_of-lack.result.sp = c.lack_of-lack.ensures.near up down sup sub in
    let rise : Within (2 ^ 35) c.rise_of-rise.result.sp = c.rise_of-rise.ensures.near up sup in
    record { low = omega (arith, ints, down.low, lack.low, rise.high); high = omega (arith, ints, down.high, lack.high, rise.low) }
