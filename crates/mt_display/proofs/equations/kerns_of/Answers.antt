use Rattle.std.proofs.Common.{arith}
use Rattle.mt_display.proofs.Common.{ints}
use Rattle.mt_display.proofs.equations.kerns_of.Goals as goal

pub returns-clause-small : goal.returns-clause-small
returns-clause-small c =
    let f = c.width_of-first.ensures.small in
    let s = c.width_of.ensures.small in
    let m = c.width_of-number.ensures.small in
    let x = c.requires.axis in
    let z = c.requires.line in
    let n = c.number_place-x.ensures.small in
    record {
      before = record {
        low = omega (arith, ints, c.minus.ensures, x.low, x.high, f.low, f.high);
        high = omega (arith, ints, c.minus.ensures, x.low, x.high, f.low, f.high);
      };
      between = record {
        low = omega (arith, ints, c.minus-2.ensures, c.plus-end.ensures, x.low, x.high, n.low, n.high, s.low, s.high);
        high = omega (arith, ints, c.minus-2.ensures, c.plus-end.ensures, x.low, x.high, n.low, n.high, s.low, s.high);
      };
      after = record {
        low = omega (arith, ints, c.minus-3.ensures, c.plus.ensures, z.low, z.high, n.low, n.high, m.low, m.high);
        high = omega (arith, ints, c.minus-3.ensures, c.plus.ensures, z.low, z.high, n.low, n.high, m.low, m.high);
      };
    }
