-- Steps that may give nothing, one after another. A `do` block of them is based on it.
use Rattle.std.specs.Prelude.{Option, option_and_then}

-- the next step takes the value of the one before
infixl 10 ◌>>=◌
abbrev pub ◌>>=◌ : {A B : Type 0} → Option A → (A → Option B) → Option B
step >>= next = option_and_then next step
