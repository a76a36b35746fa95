-- The limits of the crate.
use Rattle.std.specs.Prelude.{ℕ}

-- the most glyphs of a stack; so the repeats of an extensible character are no more
abbrev pub max_repeats : ℕ
max_repeats = 2000
