-- The lines of a formula (`formula_lines`): its body is set, then its number, then they are put on their lines. The cells of several lines
-- are set row by row.
use Rattle.std.specs.Prelude.{ℕ, ℤ, Bool, List, [], ◌∷◌, ◌++◌, Option, Some, None, Result, Ok, Err, if◌then◌else◌}
use Rattle.mt_scaled.specs.Results.{◌>>=◌}
use Rattle.mt_family.specs.SetValue.{SetValue}
use Rattle.mt_family.specs.Sets.{sy}
use Rattle.mt_family.specs.declared.size.Size.TheVariants.{Text}
use Rattle.mt_box.specs.Layout.{Layout}
use Rattle.mt_box.specs.Rows.{PieceValue}
use Rattle.mt_rules.specs.declared.document.Body.{Body}
use Rattle.mt_rules.specs.declared.document.Body.TheVariants.{List as ListBody, Equations, Lines}
use Rattle.mt_rules.specs.declared.document.Equation.{Equation}
use Rattle.mt_rules.specs.declared.document.Formula.{Formula}
use Rattle.mt_rules.specs.declared.document.Tag.{Tag}
use Rattle.mt_rules.specs.declared.style.Style.{Style}
use Rattle.mt_rules.specs.declared.style.Style.TheVariants.{D, T}
use Rattle.mt_rules.specs.DisplayRows.{EquationLayout}
use Rattle.mt_rules.specs.Sequence.{Sequence, Rows, NoRows, MoreRows}
use Rattle.mt_rules.specs.Setting.{Setting, SettingFault, MissingFamily, MissingChar, SmartLigature, Overflow, TooTall, pack_row}
use Rattle.mt_convert.specs.ListRow.{list_row}
use Rattle.mt_display.specs.Lines.{LineValue, inline_lines}
use Rattle.mt_display.specs.DisplayLines.{equation_lines, row_lines}
use Rattle.mt_display.specs.Displays.{NumberValue, display_lines}
use Rattle.mt_status.specs.declared.status.Status.{Status}
use Rattle.mt_status.specs.declared.status.Status.TheVariants as status

-- formula n is not set
abbrev pub fault_refusal : ℕ → SettingFault → Status
fault_refusal n (MissingFamily fam size) = status.MissingFamily n fam size
fault_refusal n (MissingChar fam size code) = status.MissingChar n fam size code
fault_refusal n (SmartLigature fam size first second) = status.SmartLigature n fam size first second
fault_refusal n (Overflow value) = status.Overflow n value
fault_refusal n (TooTall repeats) = status.TooTall n repeats

-- what is set of formula n, or the refusal of its first fault
abbrev pub set_by : {T : Type 0} → ℕ → Setting T → Result T Status
set_by n (Ok x) = Ok x
set_by n (Err fault) = Err (fault_refusal n fault)

-- the row of a list of formula n
abbrev pub formula_row : SetValue → ℕ → Style → Sequence → Result (List PieceValue) Status
formula_row set n style list = set_by n (list_row set style list)

-- the number beside a displayed formula, in text style
abbrev pub number_row : SetValue → ℕ → Option Tag → Result (Option NumberValue) Status
number_row set n None = Ok None
number_row set n (Some tag) = do
  row ← formula_row set n T tag.body
  Ok (Some (record { row = row; left = tag.left }))

-- a list in the text
abbrev pub text_lines : SetValue → ℕ → Sequence → Result (List LineValue) Status
text_lines set n list = do
  row ← formula_row set n T list
  set_by n (inline_lines row)

-- a displayed list and its number, on a line of this width
abbrev pub displayed_lines : SetValue → ℤ → ℕ → Sequence → Option Tag → Result (List LineValue) Status
displayed_lines set width n list tag = do
  row ← formula_row set n D list
  number ← number_row set n tag
  set_by n (display_lines (sy set 6 Text) row number width)

-- ---- several lines

-- a list of formula n as a box
abbrev pub formula_box : SetValue → ℕ → Style → Sequence → Result Layout Status
formula_box set n style list = do
  row ← formula_row set n style list
  set_by n (pack_row row)

-- the left side, then the right side, then the number; both sides begin with \displaystyle themselves
abbrev pub equation_boxes : SetValue → ℕ → Equation → Result EquationLayout Status
equation_boxes set n e = do
  first ← formula_box set n T e.first
  second ← formula_box set n T e.second
  number ← formula_box set n T e.number
  Ok (record { first = first; second = second; number = number })

-- the boxes of these, after those that are set
abbrev pub each_set : {A B : Type 0} → (A → Result B Status) → List B → List A → Result (List B) Status
each_set set boxes [] = Ok boxes
each_set set boxes (x ∷ xs) = do
  box ← set x
  each_set set (boxes ++ box ∷ []) xs

abbrev pub lists_of : Rows → List Sequence
lists_of NoRows = []
lists_of (MoreRows list rows) = list ∷ lists_of rows

abbrev pub equations_set : SetValue → ℕ → List Equation → Result (List EquationLayout) Status
equations_set set n equations = each_set (equation_boxes set n) [] equations

-- each row in display style
abbrev pub rows_set : SetValue → ℕ → Rows → Result (List Layout) Status
rows_set set n rows = each_set (formula_box set n D) [] (lists_of rows)

-- equations with their numbers, on a line of this width
abbrev pub equations_lines : SetValue → ℤ → ℕ → Bool → List Equation → Result (List LineValue) Status
equations_lines set width n left equations = do
  boxes ← equations_set set n equations
  set_by n (equation_lines boxes left width)

-- rows in the middle, on a line of this width
abbrev pub rows_lines : SetValue → ℤ → ℕ → Rows → Result (List LineValue) Status
rows_lines set width n rows = do
  boxes ← rows_set set n rows
  set_by n (row_lines boxes width)

-- ---- a formula

abbrev pub list_lines : SetValue → ℤ → Formula → Sequence → Result (List LineValue) Status
list_lines set width f list =
    if f.display then displayed_lines set width f.number list f.tag else text_lines set f.number list

abbrev pub body_lines : SetValue → ℤ → Formula → Body → Result (List LineValue) Status
body_lines set width f (ListBody list) = list_lines set width f list
body_lines set width f (Equations left equations) = equations_lines set width f.number left equations
body_lines set width f (Lines rows) = rows_lines set width f.number rows

-- the lines of a formula, or its first fault
unfoldable pub formula_lines : SetValue → ℤ → Formula → Result (List LineValue) Status
formula_lines set width f = body_lines set width f f.body
