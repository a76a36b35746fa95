-- The width of a line.
use Rattle.std.proofs.Common.{◌≡◌, arith, to_z, of_z, w64}
use Rattle.std.proofs.lemmas.Int.{ints}
use Rattle.std.specs.Prelude.{ℤ, pos, ◌≤ℤ◌}
use Rattle.mt_scaled.specs.Number.{max_dimen}

-- the width of a line is a number of the machine
pub line_kept : (z : ℤ) → pos 1 ≤ℤ z → z ≤ℤ pos max_dimen → to_z w64 (of_z w64 z) ≡ z
line_kept z low high = omega (arith, ints, low, high)
