-- What the causes of errors mean in words, each by the number of its error.
use Rattle.std.specs.Prelude.{◌≡◌, ℕ, List, [], ◌∷◌, false, nat_eq, ◌==◌, if◌then◌else◌}
use Rattle.std.specs.List.{list_any}

pub record Meaning : Type 0 where
  pub number : ℕ
  pub text : List ℕ

-- the text of a cause; another number has none
abbrev pub cause_text : List Meaning → ℕ → List ℕ
cause_text [] cause = []
cause_text (row ∷ rows) cause = if cause == row.number then row.text else cause_text rows cause

-- a text in one line: without a line feed
abbrev pub IsLine : List ℕ → Type 0
IsLine text = list_any (nat_eq 10) text ≡ false
