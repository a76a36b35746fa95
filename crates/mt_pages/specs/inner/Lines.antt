-- Rows, boxes and lines that are set on the stack of a page (`PutsRow`, `IsBox`, `SetsLines`, `SetsPageLines`), and what holds of them.
use Rattle.std.specs.Prelude.{◌≡◌, ℕ, ◌≤◌, ◌-◌, ◌^◌, List, [], ◌++◌, length, map, All, Result, Ok, Err}
use Rattle.mt_scaled.specs.Number.{Within}
use Rattle.mt_family.specs.SetValue.{SetValue}
use Rattle.mt_arena.specs.declared.thing.Span.{Span}
use Rattle.mt_arena.specs.Arena.{Held, sequence_in}
use Rattle.mt_arena.specs.Keeping.{KeptList}
use Rattle.mt_box.specs.Layout.{BoxValue, Layout, layout_of}
use Rattle.mt_box.specs.Rows.{PieceValue}
use Rattle.mt_convert.specs.Holding.{PlaceHolds, RowHolds}
use Rattle.mt_display.specs.DisplayLines.{boxes_level, equation_layout, equation_level, equations_level}
use Rattle.mt_display.specs.LineStack.{IsStack, MoreLines}
use Rattle.mt_display.specs.Lines.{LineValue}
use Rattle.mt_display.specs.declared.equations.EquationRow.{EquationRow}
use Rattle.mt_display.specs.declared.line_stack.LineStack.{LineStack}
use Rattle.mt_rules.specs.DisplayRows.{EquationLayout}
use Rattle.mt_rules.specs.Modest.{IsModestList}
use Rattle.mt_rules.specs.Setting.{Setting}
use Rattle.mt_pages.specs.FormulaLines.{set_by}
use Rattle.mt_pages.specs.Pages.{PageLinesValue}
use Rattle.mt_pages.specs.declared.page_lines.PageLines.{PageLines}
use Rattle.mt_status.specs.Origins.{IsPure}
use Rattle.mt_status.specs.declared.status.Status.{Status}

-- a list of an arena that can be set within bounds
pub record IsModestSpan (es : List Held) (list : Span) : Type 0 where
  pub within : list.end ≤ length es
  pub modest : IsModestList (sequence_in es list)
  pub lists : KeptList (sequence_in es list)

-- ---- rows

-- the row is behind the pieces that were there; its glyphs exist, and its rules mark something
pub record RowPut (fonts : SetValue) (old new : List PieceValue) (answer : Result (List PieceValue) Status) : Type 0 where
  pub row : List PieceValue
  pub is : answer ≡ Ok row
  pub stays : new ≡ old ++ row
  pub holds : RowHolds fonts row

abbrev pub PutsRow : {U : Type 0} → SetValue → Result U Status → List PieceValue → List PieceValue → Result (List PieceValue) Status → Type 0
PutsRow fonts (Ok u) old new answer = RowPut fonts old new answer
PutsRow fonts (Err status) old new answer = IsPure answer (Err status)

-- ---- the boxes of several lines

abbrev pub box_by : Result BoxValue Status → Result Layout Status
box_by (Ok b) = Ok (layout_of b)
box_by (Err status) = Err status

-- its layout is that of the step's answer
abbrev pub IsBox : Result Layout Status → Result BoxValue Status → Type 0
IsBox step result = IsPure step (box_by result)

abbrev pub boxes_by : Result (List BoxValue) Status → Result (List Layout) Status
boxes_by (Ok boxes) = Ok (map layout_of boxes)
boxes_by (Err status) = Err status

abbrev pub AreBoxes : Result (List Layout) Status → Result (List BoxValue) Status → Type 0
AreBoxes step result = IsPure step (boxes_by result)

abbrev pub equation_by : Result EquationRow Status → Result EquationLayout Status
equation_by (Ok row) = Ok (equation_layout row)
equation_by (Err status) = Err status

abbrev pub IsEquation : Result EquationLayout Status → Result EquationRow Status → Type 0
IsEquation step result = IsPure step (equation_by result)

abbrev pub equations_by : Result (List EquationRow) Status → Result (List EquationLayout) Status
equations_by (Ok rows) = Ok (map equation_layout rows)
equations_by (Err status) = Err status

abbrev pub AreEquations : Result (List EquationLayout) Status → Result (List EquationRow) Status → Type 0
AreEquations step result = IsPure step (equations_by result)

-- the glyphs of a box exist, and its rules mark something
abbrev pub BoxHolds : SetValue → Layout → Type 0
BoxHolds fonts l = All (PlaceHolds fonts) l.places

-- and a box that can be in a row of a display
pub record BoxFits (fonts : SetValue) (b : BoxValue) : Type 0 where
  pub level : b.level ≤ 2 ^ 20 - 3
  pub holds : BoxHolds fonts (layout_of b)

pub record EquationHolds (fonts : SetValue) (e : EquationLayout) : Type 0 where
  pub first : BoxHolds fonts e.first
  pub second : BoxHolds fonts e.second
  pub number : BoxHolds fonts e.number

pub record EquationFits (fonts : SetValue) (row : EquationRow) : Type 0 where
  pub level : equation_level row ≤ 2 ^ 20 - 3
  pub holds : EquationHolds fonts (equation_layout row)

-- the rows of a display
pub record BoxesFit (fonts : SetValue) (boxes : List BoxValue) : Type 0 where
  pub few : length boxes ≤ 2 ^ 19
  pub level : boxes_level boxes ≤ 2 ^ 20 - 3
  pub holds : All (BoxHolds fonts) (map layout_of boxes)

pub record EquationsFit (fonts : SetValue) (rows : List EquationRow) : Type 0 where
  pub few : length rows ≤ 2 ^ 19
  pub level : equations_level rows ≤ 2 ^ 20 - 3
  pub holds : All (EquationHolds fonts) (map equation_layout rows)

-- ---- the lines of a formula

-- the glyphs of lines exist, and their rules mark something
abbrev pub LinesHold : SetValue → List LineValue → Type 0
LinesHold fonts lines = All (λ (l : LineValue). All (PlaceHolds fonts) l.body.places) lines

-- the lines of a formula or a page
pub record AreLaid (fonts : SetValue) (most : ℕ) (lines : List LineValue) : Type 0 where
  pub few : length lines ≤ most
  pub shifts : All (λ (l : LineValue). Within (2 ^ 40) l.shift) lines
  pub hold : LinesHold fonts lines

-- lines are put after the others, or why formula n has none
abbrev pub PutsFor : {U : Type 0} → ℕ → Result U Status → List LineValue → LineStack → Setting (List LineValue) → Type 0
PutsFor n (Ok u) lines s setting = MoreLines lines s setting
PutsFor n (Err status) lines s setting = IsPure (set_by n setting) (Err status)

pub record LinesPut (fonts : SetValue) (most : ℕ) (lines : List LineValue) (s : LineStack) (answer : Result (List LineValue) Status) : Type 0 where
  pub added : List LineValue
  pub is : answer ≡ Ok added
  pub stack : IsStack (lines ++ added) [] s
  pub laid : AreLaid fonts most added

-- the lines of the answer are put after the others
abbrev pub SetsLines : {U : Type 0} → SetValue → ℕ → Result U Status → List LineValue → LineStack → Result (List LineValue) Status → Type 0
SetsLines fonts most (Ok u) lines s answer = LinesPut fonts most lines s answer
SetsLines fonts most (Err status) lines s answer = IsPure answer (Err status)

-- ---- the lines of a page

-- these lines are there, and the numbers of their formulas
pub record IsPage (page : PageLinesValue) (lines : PageLines) : Type 0 where
  pub stack : IsStack page.lines [] lines.stack
  pub formulas : lines.formulas.items ≡ page.formulas
  pub count : length page.formulas ≡ length page.lines

pub record PageSet (fonts : SetValue) (most : ℕ) (lines : PageLines) (answer : Result PageLinesValue Status) : Type 0 where
  pub page : PageLinesValue
  pub is : answer ≡ Ok page
  pub on : IsPage page lines
  pub laid : AreLaid fonts most page.lines

-- the lines of the answer are there
abbrev pub SetsPageLines : {U : Type 0} → SetValue → ℕ → Result U Status → PageLines → Result PageLinesValue Status → Type 0
SetsPageLines fonts most (Ok u) lines answer = PageSet fonts most lines answer
SetsPageLines fonts most (Err status) lines answer = IsPure answer (Err status)

-- a page whose lines can be put one below another
pub record IsStackable (lines : PageLines) : Type 0 where
  pub page : PageLinesValue
  pub on : IsPage page lines
  pub few : length page.lines ≤ 2 ^ 21
  pub shifts : All (λ (l : LineValue). Within (2 ^ 40) l.shift) page.lines
