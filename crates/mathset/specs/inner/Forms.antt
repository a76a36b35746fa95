-- A source that is set, in one of its forms (`IsPutOut`, `IsTypesetStep`).
use Rattle.std.specs.Prelude.{◌≡◌, ℕ, List, Option, Result, Ok, Err}
use Rattle.mt_outside.specs.declared.files.Held.{Held}
use Rattle.mt_dvi.specs.Lean.{Lean}
use Rattle.mt_dvi.specs.Written.{Written}
use Rattle.mt_pages.specs.Listing.{listing, summary}
use Rattle.mt_pages.specs.Typeset.{TypesetValue}
use Rattle.mathset.specs.Outcome.{Outcome}
use Rattle.mathset.specs.declared.typesetting.Form.{Form}
use Rattle.mathset.specs.declared.typesetting.Form.TheVariants.{File, Listing, Summary}
use Rattle.mathset.specs.inner.Steps.{CabinetValue, StepLeaves}
use Rattle.mt_status.specs.Origins.{IsPure}
use Rattle.mt_status.specs.declared.status.Status.{Status}

abbrev pub IsInForm : Form → TypesetValue → List ℕ → Type 0
IsInForm File typeset bytes = Written typeset.fonts bytes typeset.pages × Lean typeset.fonts bytes
IsInForm Listing typeset bytes = bytes ≡ listing typeset.pages
IsInForm (Summary formulas) typeset bytes = bytes ≡ summary formulas typeset.pages

-- what is set has this form
pub record HasForm (form : Form) (answer : Result TypesetValue Status) (bytes : List ℕ) : Type 0 where
  pub typeset : TypesetValue
  pub is : answer ≡ Ok typeset
  pub made : IsInForm form typeset bytes

-- the bytes are what is set, in this form; or the refusal is the answer, or memory ran out
abbrev pub IsPutOut : Form → Result TypesetValue Status → Result (List ℕ) Status → Type 0
IsPutOut form answer (Ok bytes) = HasForm form answer bytes
IsPutOut form answer (Err status) = IsPure answer (Err status)

pub record PutsOut (before now : CabinetValue) (steps : List Held → Outcome TypesetValue) (form : Form) (bytes : List ℕ) : Type 0 where
  pub typeset : TypesetValue
  pub made : IsInForm form typeset bytes
  pub step : StepLeaves before now steps (Ok typeset)

abbrev pub StepPutsOut : CabinetValue → CabinetValue → (List Held → Outcome TypesetValue) → Form → Result (List ℕ) Status → Type 0
StepPutsOut before now steps form (Ok bytes) = PutsOut before now steps form bytes
StepPutsOut before now steps form (Err status) = StepLeaves before now steps (Err status)

abbrev pub IsTypesetStep : {C : Type 0} → (C → Option (List Held)) → (C → ℕ) → (C → Option (List ℕ)) → C → C → (List Held → Outcome TypesetValue) → Form → Result (List ℕ) Status → Type 0
IsTypesetStep holds faults lost before now steps form result =
    StepPutsOut (record { holds = holds before; faults = faults before; lost = lost before }) (record { holds = holds now; faults = faults now; lost = lost now }) steps form result
