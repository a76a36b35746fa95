-- What a step leaves of its cabinet (`IsStep`).
use Rattle.std.specs.Prelude.{◌≡◌, ◌≤◌, ℕ, List, Option, Some, Result, Ok, Err, Contains, ⊤}
use Rattle.mt_outside.specs.Counts.{Rose}
use Rattle.mt_outside.specs.declared.files.Held.{Held}
use Rattle.mt_outside.specs.declared.cabinet.FetchError.{FetchError}
use Rattle.mt_outside.specs.declared.cabinet.FetchError.TheVariants.{Failed, TooLong as FileTooLong, OutOfMemory as NoFetchMemory}
use Rattle.mt_status.specs.Origins.{IsPure, Origin, Told, Lost, Memory, Never, origin_of}
use Rattle.mathset.specs.Outcome.{Outcome}
use Rattle.mathset.specs.Product.{IsLean, Makes, Product, Text}
use Rattle.mt_status.specs.declared.status.Status.{Status}
use Rattle.mt_status.specs.declared.status.Status.TheVariants.{ReadFault, TooLong, OutOfMemory}

-- what is seen of a cabinet
pub record CabinetValue : Type 0 where
  pub holds : Option (List Held)
  pub faults : ℕ
  pub lost : Option (List ℕ)

abbrev pub StepBy : Origin → CabinetValue → CabinetValue → (List Held → Type 0) → (List ℕ → List Held → Type 0) → Type 0
StepBy Told before now says asks = (now.faults ≡ before.faults) × ((files : List Held) → before.holds ≡ Some files → says files)
StepBy (Lost name) before now says asks = Rose before.faults now.faults × (now.lost ≡ Some name) × ((files : List Held) → before.holds ≡ Some files → asks name files)
StepBy Memory before now says asks = before.faults ≤ now.faults
StepBy Never before now says asks = ⊥

-- A step leaves the cabinet's files. Its answer is theirs, and no call failed; or a call failed, the cabinet keeps its name,
-- and it is one of the files that the steps ask for; or memory ran out.
pub record StepLeaves {T : Type 0} (before now : CabinetValue) (steps : List Held → Outcome T) (result : Result T Status) : Type 0 where
  pub kept : now.holds ≡ before.holds
  pub origin : StepBy (origin_of result) before now (λ files. (steps files).result ≡ result) (λ name files. Contains (steps files).asked name)

-- the same, with the three meanings of a cabinet and its states before and after the step
abbrev pub IsStep : {C T : Type 0} → (C → Option (List Held)) → (C → ℕ) → (C → Option (List ℕ)) → C → C → (List Held → Outcome T) → Result T Status → Type 0
IsStep holds faults lost before now steps result =
    StepLeaves (record { holds = holds before; faults = faults before; lost = lost before }) (record { holds = holds now; faults = faults now; lost = lost now }) steps result

-- the status of a fetch's error
abbrev pub IsFetchRefusal : List ℕ → FetchError → Status → Type 0
IsFetchRefusal word Failed (ReadFault name) = name ≡ word
IsFetchRefusal word FileTooLong (TooLong name) = name ≡ word
IsFetchRefusal word NoFetchMemory OutOfMemory = ⊤
IsFetchRefusal word error status = ⊥

-- what is made is a text
abbrev pub text_of : Result (List ℕ) Status → Result Product Status
text_of (Ok text) = Ok (Text text)
text_of (Err status) = Err status

-- the bytes are the product of the steps, and lean
pub record MakesProduct (before now : CabinetValue) (steps : List Held → Outcome Product) (bytes : List ℕ) : Type 0 where
  pub product : Product
  pub made : Makes product bytes
  pub lean : IsLean product bytes
  pub step : StepLeaves before now steps (Ok product)

abbrev pub StepMakes : CabinetValue → CabinetValue → (List Held → Outcome Product) → Result (List ℕ) Status → Type 0
StepMakes before now steps (Ok bytes) = MakesProduct before now steps bytes
StepMakes before now steps (Err status) = StepLeaves before now steps (Err status)

-- the same, with the three meanings of a cabinet and its states before and after the step
abbrev pub IsMade : {C : Type 0} → (C → Option (List Held)) → (C → ℕ) → (C → Option (List ℕ)) → C → C → (List Held → Outcome Product) → Result (List ℕ) Status → Type 0
IsMade holds faults lost before now steps result =
    StepMakes (record { holds = holds before; faults = faults before; lost = lost before }) (record { holds = holds now; faults = faults now; lost = lost now }) steps result

-- the bytes are the product that is answered, and lean; or the refusal is the answer, or memory ran out
pub record HasProduct (answer : Result Product Status) (bytes : List ℕ) : Type 0 where
  pub product : Product
  pub is : answer ≡ Ok product
  pub made : Makes product bytes
  pub lean : IsLean product bytes

abbrev pub IsProduct : Result Product Status → Result (List ℕ) Status → Type 0
IsProduct answer (Ok bytes) = HasProduct answer bytes
IsProduct answer (Err status) = IsPure answer (Err status)
