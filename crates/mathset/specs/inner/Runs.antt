-- What a run leaves of its cabinet and of its output (`IsRun`): the clauses of `run` that its parts share.
use Rattle.std.specs.Prelude.{◌≡◌, ℕ, ◌<◌, List, Option, Some, Result, Ok, Err, Contains}
use Rattle.mt_outside.specs.Counts.{Rose}
use Rattle.mt_outside.specs.declared.files.Held.{Held}
use Rattle.mathset.specs.Ends.{Gives, GotLean, GotPart, IsQuiet, IsReadFaultOrNoMemory, IsToldRefusal, IsWriteFault, WritesPart}
use Rattle.mathset.specs.Outcome.{Outcome}
use Rattle.mathset.specs.Product.{IsLean, Makes, Product}
use Rattle.mt_status.specs.declared.status.Status.{Status}
use Rattle.mt_status.specs.declared.status.Status.TheVariants.{Done, ReadFault, WriteFault}

-- no step refused, and the output got the whole product, which is lean
pub record WritesWholeLean (holds : Option (List Held)) (steps : List Held → Outcome Product) (before now : Option (List ℕ)) : Type 0 where
  pub gives : Gives holds steps
  pub got : GotLean gives.product before now

pub record IsRun {C K : Type 0} (holds : C → Option (List Held)) (reads : C → ℕ) (last : C → Option (List ℕ)) (written : K → Option (List ℕ)) (writes : K → ℕ) (steps : List Held → Outcome Product) (cabinet cabinet' : C) (out out' : K) (status : Status) : Type 0 where
  pub refused : (files : List Held) → holds cabinet ≡ Some files → IsToldRefusal status → (steps files).result ≡ Err status
  pub done : status ≡ Done → WritesWholeLean (holds cabinet) steps (written out) (written out')
  pub cut : (count : ℕ) → status ≡ WriteFault count → Rose (writes out) (writes out') × WritesPart (holds cabinet) steps count (written out) (written out')
  pub lost : (name : List ℕ) → status ≡ ReadFault name → Rose (reads cabinet) (reads cabinet') × (last cabinet' ≡ Some name)
  pub asked : (name : List ℕ) (files : List Held) → status ≡ ReadFault name → holds cabinet ≡ Some files → Contains (steps files).asked name
  pub reads_counted : reads cabinet < reads cabinet' → IsReadFaultOrNoMemory status
  pub writes_counted : writes out < writes out' → IsWriteFault status
  pub quiet : IsQuiet status → out' ≡ out
  pub kept : holds cabinet' ≡ holds cabinet

-- what writing a product leaves
abbrev pub LeavesOutput : {K : Type 0} → (K → Option (List ℕ)) → (K → ℕ) → Product → K → K → Status → Type 0
LeavesOutput written writes product out out' Done = (writes out' ≡ writes out) × GotLean product (written out) (written out')
LeavesOutput written writes product out out' (WriteFault count) = Rose (writes out) (writes out') × GotPart product count (written out) (written out')
LeavesOutput written writes product out out' status = ⊥

-- what the end of a run leaves: what was made is written, or the refusal is the status
abbrev pub EndLeaves : {K : Type 0} → (K → Option (List ℕ)) → (K → ℕ) → Result (List ℕ) Status → K → K → Status → Type 0
EndLeaves written writes (Ok bytes) out out' status = (product : Product) → Makes product bytes → IsLean product bytes → LeavesOutput written writes product out out' status
EndLeaves written writes (Err refusal) out out' status = (status ≡ refusal) × (out' ≡ out)
