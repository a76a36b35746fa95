-- Pages of places, one after another, up to the first fault of a place.
use Rattle.std.specs.Prelude.{◌≡◌, ℕ, List, [], Option, None, Result, Ok, Err, ⊤}
use Rattle.mt_scaled.specs.Results.{◌>>=◌}
use Rattle.mt_box.specs.declared.place.Place.{Place}
use Rattle.mt_dvi.specs.Limits.{max_places}
use Rattle.mt_display.specs.declared.error.StackError.{StackError}
use Rattle.mt_pages.specs.Pages.{PageLinesValue, overfull_formula, pages_places, stack_refusal}
use Rattle.mt_pages.specs.declared.pages.PlaceFault.{PlaceFault}
use Rattle.mt_status.specs.Notes.{NotesFormula}
use Rattle.mt_status.specs.Origins.{Told, refusal_origin}
use Rattle.mt_status.specs.declared.status.Status.{Status}

-- pages, and how many places more there may be
pub record PlacedValue : Type 0 where
  pub pages : List (List Place)
  pub room : ℕ

abbrev pub nothing_placed : Result PlacedValue Status
nothing_placed = Ok (record { pages = []; room = max_places })

-- the pages that are left, after those that are placed
abbrev pub place_rest : Result PlacedValue Status → List PageLinesValue → Result (List (List Place)) Status
place_rest placed pages = do
  p ← placed
  pages_places p.pages p.room pages

-- why lines of these formulas have no places
abbrev pub place_fault : List ℕ → StackError → PlaceFault
place_fault formulas e = record { status = stack_refusal formulas e; formula = overfull_formula formulas e }

-- places, or why there are none
abbrev pub status_of : Result (List Place) PlaceFault → Result (List Place) Status
status_of (Ok places) = Ok places
status_of (Err fault) = Err fault.status

-- the formula that has a place too many
abbrev pub overfull_of : Result (List Place) PlaceFault → Option ℕ
overfull_of (Ok places) = None
overfull_of (Err fault) = fault.formula

-- a place's refusal comes of the files, and is not that memory ran out; its formula is known where there are too many
pub record IsToldFault (fault : PlaceFault) : Type 0 where
  pub origin : refusal_origin fault.status ≡ Told
  pub formula : NotesFormula fault.status fault.formula

abbrev pub IsToldAnswer : Result (List Place) PlaceFault → Type 0
IsToldAnswer (Ok places) = ⊤
IsToldAnswer (Err fault) = IsToldFault fault
