-- The size at which a font is wanted, and the size that it then has.
use Rattle.std.specs.Prelude.{◌≤◌, ◌^◌, ◌*◌, ◌/◌, ◌<ℤ◌, ℕ, ℤ, pos}
use Rattle.mt_tfm.specs.Limits.{max_factor}
use Rattle.mt_tfm.specs.declared.wanted.Wanted.{Wanted}
use Rattle.mt_tfm.specs.declared.wanted.Wanted.TheVariants.{At, Scaled}

-- a size, or a number of thousandths, within its bounds
abbrev pub IsWanted : Wanted → Type 0
IsWanted (At at) = (pos 0 <ℤ at) × (at <ℤ pos (2 ^ 27))
IsWanted (Scaled factor) = (1 ≤ factor) × (factor ≤ max_factor)

-- so many thousandths of a design size, rounded down (tex.web, section 568)
abbrev pub scaled_size : ℕ → ℕ → ℕ
scaled_size factor design = design * factor / 1000

-- the size of a font of this design size
abbrev pub size_for : Wanted → ℕ → ℤ
size_for (At at) design = at
size_for (Scaled factor) design = pos (scaled_size factor design)
