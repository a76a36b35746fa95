-- How many formulas are generated.
use Rattle.std.specs.Prelude.{ℕ}

-- the most formulas of the generator
abbrev pub max_count : ℕ
max_count = 20000
