-- The source that the generator makes from a seed (`generated`). A state is a number below 2^64.
use Rattle.std.specs.Prelude.{ℕ, zero, suc, ◌+◌, ◌*◌, ◌/◌, ◌%◌, ◌^◌, ◌==◌, List, [], ◌∷◌, ◌++◌, if◌then◌else◌, codes, slice_index_or}

-- the state after a draw
abbrev pub next_state : ℕ → ℕ
next_state state = (state * 6364136223846793005 + 1442695040888963407) % 2 ^ 64

-- what a draw below k gives, from the state after it
abbrev pub drawn : ℕ → ℕ → ℕ
drawn k state = (state / 2 ^ 33) % k

-- a letter for `@` (64), from `a` (97) on, and any other byte itself
abbrev pub byte_for : ℕ → ℕ → ℕ
byte_for c state = if c == 64 then 97 + drawn 26 (next_state state) else c

-- the state after a byte of a template
abbrev pub state_after : ℕ → ℕ → ℕ
state_after c state = if c == 64 then next_state state else state

-- a template with a letter for each `@`, drawn from the left
abbrev pub with_letters : List ℕ → ℕ → List ℕ
with_letters [] state = []
with_letters (c ∷ rest) state = byte_for c state ∷ with_letters rest (state_after c state)

-- the state after a template
abbrev pub state_after_all : List ℕ → ℕ → ℕ
state_after_all [] state = state
state_after_all (c ∷ rest) state = state_after_all rest (state_after c state)

abbrev pub templates : List (List ℕ)
templates = codes "$@+@=@$"
    ∷ codes "$@_@^2-@_@^3$"
    ∷ codes "$$\\sum_@^@{@\\over @+@}$$"
    ∷ codes "$$\\left({@^2\\over @}\\right)\\sqrt{@+1}$$"
    ∷ codes "$\\hat @^2\\mathchoice{@}{@}{@}{@}$"
    ∷ []

unfoldable pub template : ℕ → List ℕ
template n = slice_index_or templates n []

-- a formula, from the state before it
unfoldable pub formula : ℕ → List ℕ
formula state = with_letters (template (drawn 5 (next_state state))) (next_state state)

unfoldable pub state_after_formula : ℕ → ℕ
state_after_formula state = state_after_all (template (drawn 5 (next_state state))) (next_state state)

-- what follows formula n, counted from 1: after every 20th the page ends
abbrev pub formula_end : ℕ → List ℕ
formula_end n = codes "\n" ++ (if n % 20 == 0 then codes "\\eject\n" else [])

-- so many formulas and their line ends, where so many are before them
abbrev pub formulas_after : ℕ → ℕ → ℕ → List ℕ
formulas_after before state zero = []
formulas_after before state (suc count) =
    formula state ++ formula_end (before + 1) ++ formulas_after (before + 1) (state_after_formula state) count

unfoldable pub generated : ℕ → ℕ → List ℕ
generated seed count = formulas_after 0 seed count
