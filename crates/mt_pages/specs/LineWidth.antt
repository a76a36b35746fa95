-- How wide a line may be (`IsLineWidth`).
use Rattle.std.specs.Prelude.{ℤ, pos, ◌≤ℤ◌}
use Rattle.mt_scaled.specs.Number.{max_dimen}

-- a width that a line may have, in sp
pub record IsLineWidth (width : ℤ) : Type 0 where
  pub least : pos 1 ≤ℤ width
  pub most : width ≤ℤ pos max_dimen
