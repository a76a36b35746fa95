-- How much a macro, a list and an expansion may be.
use Rattle.std.specs.Prelude.{ℕ}

-- the greatest number of parameters of a macro
abbrev pub max_params : ℕ
max_params = 9

-- the greatest number of names of the user's own
abbrev pub max_own_names : ℕ
max_own_names = 1000

-- the greatest number of tokens of a list, before and after each step
abbrev pub max_tokens : ℕ
max_tokens = 50000

-- the greatest number of steps
abbrev pub max_steps : ℕ
max_steps = 20000
