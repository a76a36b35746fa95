use Rattle.std.proofs.Common.{◌^◌, ◌*◌, arith, sym, subst}
use Rattle.std.proofs.lemmas.Int.{ints}
use Rattle.mt_scaled.specs.Number.{Within}
use Rattle.mt_parts.proofs.Clamps.{half_small}
use Rattle.mt_parts.proofs.accents.shift_to_middle.Goals as goal

pub returns-clause-small : goal.returns-clause-small
returns-clause-small c =
    let room : Within (2 * (3 * 2 ^ 38)) c.minus.result.sp = record {
      low = omega (arith, ints, c.minus.ensures, c.requires.plain.low, c.requires.plain.high, c.requires.width.low, c.requires.width.high);
      high = omega (arith, ints, c.minus.ensures, c.requires.plain.low, c.requires.plain.high, c.requires.width.low, c.requires.width.high);
    } in
    subst (λ z. Within (3 * 2 ^ 38) z) (sym c.half.ensures.is) (half_small (3 * 2 ^ 38) c.minus.result.sp room)
