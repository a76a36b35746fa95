use Rattle.std.proofs.Common.{◌≡◌, ◌<ℤ◌, ◌≤◌, ◌*◌, ◌/◌, ◌^◌, ◌-ℤ◌, pos, nat_abs, ℕ, ℤ, w64, to_z, of_z, arith}
use Rattle.std.proofs.Math.Nat.{div-le_of_le-mul, mul-le-mul_left, mul_assoc}
use Rattle.std.proofs.lemmas.Int.{ints, to_z-of_z}
use Rattle.mt_scaled.proofs.fix.fix_scaled.Goals as goal

parts_small : (k q s a m : ℕ) → q * a ≡ k → a * s ≤ m → k * s ≤ q * m
parts_small k q s a m e h = rw (← e, mul_assoc q a s) (mul-le-mul_left q h)

-- what the last three bytes give is at most as many sizes as the product with alpha
value_small : (f s a m : ℕ) → 256 / a * a ≡ 256 → f ≤ 256 * s → a * s ≤ m → f / (256 / a) ≤ m
value_small f s a m parts few small =
    div-le_of_le-mul (256 / a) {m = f} {n = m} (omega (arith, few, parts_small 256 (256 / a) s a m parts small))

positive_small : (v : ℕ) (z : ℤ) → v ≤ 16 * nat_abs z → pos 0 <ℤ z → z <ℤ pos (2 ^ 27) → nat_abs (to_z w64 v) ≤ 16 * nat_abs z
positive_small v z small above below = omega (arith, ints, small, above, below)

difference_small : (v p : ℕ) (z : ℤ) → v ≤ 16 * nat_abs z → p ≤ 16 * nat_abs z → pos 0 <ℤ z → z <ℤ pos (2 ^ 27)
    → nat_abs (to_z w64 (of_z w64 (to_z w64 v -ℤ to_z w64 p))) ≤ 16 * nat_abs z
difference_small v p z small less above below = omega (arith, ints, small, less, above, below)

pub returns-in-0-clause-small : goal.returns-in-0-clause-small
returns-in-0-clause-small c =
    let less : c.size_and_alpha-size.result.1 * c.size_and_alpha-size.result.0 ≤ 16 * nat_abs c.args.z = rw (← to_z-of_z w64 c.args.z c.ranges.z) c.size_and_alpha-size.ensures.small in
    positive_small _ c.args.z (value_small _ _ _ _ c.size_and_alpha-size.ensures.parts c.fraction_at.ensures.bound less) c.requires.above c.requires.below

pub returns-in-255-clause-small : goal.returns-in-255-clause-small
returns-in-255-clause-small c =
    let less : c.size_and_alpha-size.result.1 * c.size_and_alpha-size.result.0 ≤ 16 * nat_abs c.args.z = rw (← to_z-of_z w64 c.args.z c.ranges.z) c.size_and_alpha-size.ensures.small in
    difference_small _ _ c.args.z (value_small _ _ _ _ c.size_and_alpha-size.ensures.parts c.fraction_at.ensures.bound less) less c.requires.above c.requires.below
