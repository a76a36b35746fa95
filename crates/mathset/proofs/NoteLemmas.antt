-- What a run notes beside its status.
use Rattle.std.proofs.Common.{◌≡◌, ℕ, List, Bool, true, false, refl, sym, ap, subst}
use Rattle.std.specs.Prelude.{◌&&◌, Option, Some, None, Result, Ok, Err}
use Rattle.mt_family.specs.SetValue.{SetValue}
use Rattle.mt_family.specs.Sets.{units_of}
use Rattle.mt_outside.specs.declared.files.Held.{Held}
use Rattle.mt_pages.specs.Pages.{NotesOnly, found_in}
use Rattle.mt_scaled.specs.declared.unit.Units.{Units}
use Rattle.mt_status.specs.Notes.{NotesFault, has_too_many_places, is_noted, is_too_many}
use Rattle.mt_status.specs.declared.status.Status.{Status}
use Rattle.mt_status.specs.declared.status.Much.TheVariants as much
use Rattle.mt_status.specs.declared.status.Status.TheVariants.{Done, TooMuch, WriteFault}
use Rattle.mt_words.specs.declared.request.Request.{Request}
use Rattle.mt_words.specs.declared.request.Request.TheVariants.{Set, Places}
use Rattle.mathset.specs.Noted.{AreUnitsIn, AreUnitsOf, is_refused_source, refuses_source}
use Rattle.mathset.specs.Outcome.{Outcome}
use Rattle.mathset.specs.Product.{Product}
use Rattle.mathset.specs.inner.Runs.{EndLeaves, LeavesOutput}
use Rattle.mathset.specs.inner.Steps.{CabinetValue, IsMade, StepLeaves}

-- a formula is noted exactly where the answer is that there are too many places
pub noted_by : {T : Type 0} (result : Result T Status) (formula : Option ℕ) → NotesFault result formula → is_noted formula ≡ is_too_many result
noted_by (Ok x) formula none = ap is_noted none
noted_by (Err status) formula is = is

-- the em and the ex of fonts that a step gave
pub units_in : (answer : Result SetValue Status) (fonts : SetValue) (units : Units) → answer ≡ Ok fonts → units ≡ units_of fonts → AreUnitsIn answer (Some units)
units_in answer fonts units same is = subst (λ (r : Result SetValue Status). AreUnitsIn r (Some units)) (sym same) is

-- a formula that is noted is found in what a step gave
pub notes_found : {T : Type 0} (before now : CabinetValue) (steps : List Held → Outcome T) (x : T) (find : T → Option ℕ) (formula : Option ℕ) (files : List Held) → StepLeaves before now steps (Ok x) → before.holds ≡ Some files
    → NotesOnly (find x) formula → NotesOnly (found_in (steps files).result find) formula
notes_found before now steps x find formula files step told only =
    subst (λ (r : Result _ Status). NotesOnly (found_in r find) formula) (sym (step.origin.1 files told)) only

written_few : {K : Type 0} (written : K → Option (List ℕ)) (writes : K → ℕ) (product : Product) (out out' : K) (status : Status) → LeavesOutput written writes product out out' status
    → has_too_many_places status ≡ false
written_few written writes product out out' Done end = refl
written_few written writes product out out' (WriteFault count) end = refl
written_few written writes product out out' status end = absurd end

-- the end of a run has too many places exactly where what was to be made has
pub ended_noted : {C K : Type 0} (holds : C → Option (List Held)) (reads : C → ℕ) (last : C → Option (List ℕ)) (written : K → Option (List ℕ)) (writes : K → ℕ) (steps : List Held → Outcome Product)
    (cabinet cabinet' : C) (out out' : K) (made : Result (List ℕ) Status) (status : Status) → IsMade holds reads last cabinet cabinet' steps made
    → EndLeaves written writes made out out' status → has_too_many_places status ≡ is_too_many made
ended_noted holds reads last written writes steps cabinet cabinet' out out' (Ok bytes) status made end =
    written_few written writes made.product out out' status (end made.product made.made made.lean)
ended_noted holds reads last written writes steps cabinet cabinet' out out' (Err refusal) status step end = ap has_too_many_places end.0

-- a status of a file is none of too many places
pub few_of_file : (status : Status) → refuses_source status ≡ false → has_too_many_places status ≡ false
few_of_file (TooMuch much.Places count) never = absurd (cc)
few_of_file status of_file = refl

written_whole : {K : Type 0} (written : K → Option (List ℕ)) (writes : K → ℕ) (product : Product) (out out' : K) (status : Status) → LeavesOutput written writes product out out' status
    → refuses_source status ≡ false
written_whole written writes product out out' Done end = refl
written_whole written writes product out out' (WriteFault count) end = refl
written_whole written writes product out out' status end = absurd end

-- the end of a run refuses a source exactly where what was to be made is refused so
pub ended_refused : {C K : Type 0} (holds : C → Option (List Held)) (reads : C → ℕ) (last : C → Option (List ℕ)) (written : K → Option (List ℕ)) (writes : K → ℕ) (steps : List Held → Outcome Product)
    (cabinet cabinet' : C) (out out' : K) (made : Result (List ℕ) Status) (status : Status) → IsMade holds reads last cabinet cabinet' steps made
    → EndLeaves written writes made out out' status → refuses_source status ≡ is_refused_source made
ended_refused holds reads last written writes steps cabinet cabinet' out out' (Ok bytes) status made end =
    written_whole written writes made.product out out' status (end made.product made.made made.lean)
ended_refused holds reads last written writes steps cabinet cabinet' out out' (Err refusal) status step end = ap refuses_source end.0

-- nothing is noted
pub no_units : (request : Option Request) (files : List Held) → AreUnitsOf request files None
no_units (Some (Set words)) files = tt
no_units (Some (Places words)) files = tt
no_units request files = refl

pub no_formula : (sets : Bool) → false ≡ (sets && false)
no_formula true = refl
no_formula false = refl
