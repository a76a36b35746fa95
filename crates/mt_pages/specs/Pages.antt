-- The pages of a source (`source_pages`): the lines of all formulas, then the places of these lines, page by page. And the formula
-- that has the first place too many (`source_overfull`).
use Rattle.std.specs.Prelude.{◌≡◌, ⊤, ℕ, ◌+◌, ◌-◌, ℤ, List, [], ◌∷◌, ◌++◌, length, replicate, get_or, Option, Some, None, Result, Ok, Err}
use Rattle.mt_scaled.specs.Results.{◌>>=◌}
use Rattle.mt_family.specs.SetValue.{SetValue}
use Rattle.mt_box.specs.declared.place.Place.{Place}
use Rattle.mt_display.specs.declared.error.StackError.{StackError}
use Rattle.mt_display.specs.declared.error.StackError.TheVariants.{OutOfRange, TooMany, OutOfMemory as NoStackMemory}
use Rattle.mt_display.specs.Lines.{LineValue}
use Rattle.mt_display.specs.Stack.{stacked_lines}
use Rattle.mt_dvi.specs.Limits.{max_places}
use Rattle.mt_rules.specs.declared.document.Formula.{Formula}
use Rattle.mt_pages.specs.Documents.{document_of}
use Rattle.mt_pages.specs.FormulaLines.{formula_lines}
use Rattle.mt_status.specs.declared.status.Much.TheVariants.{Places}
use Rattle.mt_status.specs.declared.status.Status.{Status}
use Rattle.mt_status.specs.declared.status.Status.TheVariants.{Overflow, TooMuch, OutOfMemory}

-- the lines of a page, and of each the number of its formula
pub record PageLinesValue : Type 0 where
  pub lines : List LineValue
  pub formulas : List ℕ

abbrev pub no_lines : PageLinesValue
no_lines = record { lines = []; formulas = [] }

-- a page with the lines of formula n after its own
abbrev pub with_formula_lines : PageLinesValue → ℕ → List LineValue → PageLinesValue
with_formula_lines page n lines = record {
  lines = page.lines ++ lines;
  formulas = page.formulas ++ replicate (length lines) n;
}

-- the lines of formulas, after those of the formulas before them on the page
abbrev pub page_lines : SetValue → ℤ → PageLinesValue → List Formula → Result PageLinesValue Status
page_lines set width page [] = Ok page
page_lines set width page (f ∷ fs) = do
  lines ← formula_lines set width f
  page_lines set width (with_formula_lines page f.number lines) fs

-- the lines of a document, page by page
abbrev pub document_lines : SetValue → ℤ → List (List Formula) → Result (List PageLinesValue) Status
document_lines set width [] = Ok []
document_lines set width (page ∷ pages) = do
  lines ← page_lines set width no_lines page
  rest ← document_lines set width pages
  Ok (lines ∷ rest)

-- a place out of range is one of the formula that its line is of
abbrev pub stack_refusal : List ℕ → StackError → Status
stack_refusal formulas (OutOfRange line value) = Overflow (get_or formulas line 0) value
stack_refusal formulas (TooMany line) = TooMuch Places (max_places + 1)
stack_refusal formulas NoStackMemory = OutOfMemory

abbrev pub placed_by : List ℕ → Result (List Place) StackError → Result (List Place) Status
placed_by formulas (Ok places) = Ok places
placed_by formulas (Err e) = Err (stack_refusal formulas e)

-- the formula whose line has a place too many
abbrev pub overfull_formula : List ℕ → StackError → Option ℕ
overfull_formula formulas (OutOfRange line value) = None
overfull_formula formulas (TooMany line) = Some (get_or formulas line 0)
overfull_formula formulas NoStackMemory = None

abbrev pub overfull_by : List ℕ → Result (List Place) StackError → Option ℕ
overfull_by formulas (Ok places) = None
overfull_by formulas (Err e) = overfull_formula formulas e

-- the places of a page, where there is room for so many
abbrev pub page_places : ℕ → PageLinesValue → Result (List Place) Status
page_places room page = placed_by page.formulas (stacked_lines room page.lines)

-- the formula of a page that has the first place for which there is no room, where that is its first fault
abbrev pub page_overfull : ℕ → PageLinesValue → Option ℕ
page_overfull room page = overfull_by page.formulas (stacked_lines room page.lines)

-- the places of pages, after those of the pages before them, where there is room for so many more
abbrev pub pages_places : List (List Place) → ℕ → List PageLinesValue → Result (List (List Place)) Status
pages_places before room [] = Ok before
pages_places before room (page ∷ pages) = do
  places ← page_places room page
  pages_places (before ++ places ∷ []) (room - length places) pages

-- The pages of a document, which is formulas page by page. All formulas are set before a place is found.
unfoldable pub document_pages : SetValue → ℤ → List (List Formula) → Result (List (List Place)) Status
document_pages set width document = do
  pages ← document_lines set width document
  pages_places [] max_places pages

-- the pages of a source
unfoldable pub source_pages : SetValue → ℤ → List ℕ → Result (List (List Place)) Status
source_pages set width bytes = do
  document ← document_of set bytes
  document_pages set width document

-- what is found in a value; where there is a refusal, nothing
abbrev pub found_in : {T : Type 0} → Result T Status → (T → Option ℕ) → Option ℕ
found_in (Ok x) find = find x
found_in (Err status) find = None

-- what is found after the places of a page; where the page has a fault, the formula that is found on it
abbrev pub unless_placed : Result (List Place) Status → Option ℕ → (List Place → Option ℕ) → Option ℕ
unless_placed (Ok places) formula find = find places
unless_placed (Err status) formula find = formula

-- The formula of pages that has the first place for which there is no room, where that is their first fault. There is as much
-- room on a page as the pages before it leave.
abbrev pub pages_overfull : ℕ → List PageLinesValue → Option ℕ
pages_overfull room [] = None
pages_overfull room (page ∷ pages) =
    unless_placed (page_places room page) (page_overfull room page) (λ places. pages_overfull (room - length places) pages)

-- the same of a document: all its formulas are set before a place is found
unfoldable pub document_overfull : SetValue → ℤ → List (List Formula) → Option ℕ
document_overfull set width document = found_in (document_lines set width document) (λ pages. pages_overfull max_places pages)

-- the same of a source
unfoldable pub source_overfull : SetValue → ℤ → List ℕ → Option ℕ
source_overfull set width bytes = found_in (document_of set bytes) (λ document. document_overfull set width document)

-- a formula that is noted is this one
abbrev pub NotesOnly : Option ℕ → Option ℕ → Type 0
NotesOnly overfull None = ⊤
NotesOnly overfull (Some n) = overfull ≡ Some n
