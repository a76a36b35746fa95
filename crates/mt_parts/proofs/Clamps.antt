-- A small fact of halves.
use Rattle.std.proofs.Common.{ℕ, ◌*◌, ℤ, pos, negsuc, arith}
use Rattle.std.proofs.lemmas.Int.{ints}
use Rattle.mt_scaled.specs.Number.{Within, half_of}

pub half_small : (n : ℕ) (x : ℤ) → Within (2 * n) x → Within n (half_of x)
half_small n (pos m) h = record { low = omega (arith, ints, h.high); high = omega (arith, ints, h.high) }
half_small n (negsuc m) h = record { low = omega (arith, ints, h.low); high = omega (arith, ints, h.low) }
