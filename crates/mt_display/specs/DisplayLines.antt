-- Displays of several lines (`equation_lines`, `row_lines`): their rows together are one line, at the left end.
use Rattle.std.specs.Prelude.{ℕ, ℤ, pos, max, Bool, List, [], ◌∷◌, Ok}
use Rattle.mt_box.specs.Layout.{BoxValue, Layout, layout_of}
use Rattle.mt_rules.specs.Setting.{Setting, ◌>>=◌}
use Rattle.mt_rules.specs.DisplayRows.{EquationLayout, equations_line, rows_line}
use Rattle.mt_display.specs.declared.equations.EquationRow.{EquationRow}
use Rattle.mt_display.specs.Lines.{LineValue}

-- ---- the rows of a call

-- what contracts see of an equation: its boxes without levels
abbrev pub equation_layout : EquationRow → EquationLayout
equation_layout r = record { first = layout_of r.first; second = layout_of r.second; number = layout_of r.number }

-- the greatest of these levels, and 1 without any
abbrev pub greatest_level : {A : Type 0} → (A → ℕ) → List A → ℕ
greatest_level level [] = 1
greatest_level level (x ∷ xs) = max (level x) (greatest_level level xs)

abbrev pub boxes_level : List BoxValue → ℕ
boxes_level boxes = greatest_level (λ (b : BoxValue). b.level) boxes

abbrev pub equation_level : EquationRow → ℕ
equation_level r = max r.first.level (max r.second.level r.number.level)

abbrev pub equations_level : List EquationRow → ℕ
equations_level rows = greatest_level equation_level rows

-- ---- their line

abbrev pub at_left_end : Setting Layout → Setting (List LineValue)
at_left_end line = do
  body ← line
  Ok (record { shift = pos 0; body = body } ∷ [])

-- for place_equations
abbrev pub equation_lines : List EquationLayout → Bool → ℤ → Setting (List LineValue)
equation_lines rows left width = at_left_end (equations_line rows left width)

-- for place_rows
abbrev pub row_lines : List Layout → ℤ → Setting (List LineValue)
row_lines rows width = at_left_end (rows_line rows width)
