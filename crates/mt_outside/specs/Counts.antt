-- Counts of faults.
use Rattle.std.specs.Prelude.{◌≡◌, ◌<◌, ◌≤◌, ℕ, ◌+◌, ◌-◌, ◌^◌, min, List, Option, Some, Result, Ok, Err}
use Rattle.mt_outside.specs.declared.cabinet.FetchError.{FetchError}
use Rattle.mt_outside.specs.declared.cabinet.FetchError.TheVariants.{Failed, TooLong, OutOfMemory}

-- the next number of a count, which is still at its type's end
abbrev pub next_count : ℕ → ℕ
next_count count = min (count + 1) (2 ^ 64 - 1)

-- a count rose: it is greater, or is at the type's end
abbrev pub Rose : ℕ → ℕ → Type 0
Rose before now = (before ≤ now) × (next_count before ≤ now)

-- a count did not rise: it is not greater, and is not at the type's end
abbrev pub IsSteady : ℕ → ℕ → Type 0
IsSteady before now = now < next_count before

-- what a fetch leaves of the count and of the name of the last failed call
abbrev pub FetchLeaves : {T : Type 0} → ℕ → ℕ → Option (List ℕ) → Option (List ℕ) → List ℕ → Result T FetchError → Type 0
FetchLeaves before now old_lost lost name (Ok bytes) = (now ≡ before) × (lost ≡ old_lost)
FetchLeaves before now old_lost lost name (Err Failed) = Rose before now × (lost ≡ Some name)
FetchLeaves before now old_lost lost name (Err TooLong) = (now ≡ before) × (lost ≡ old_lost)
FetchLeaves before now old_lost lost name (Err OutOfMemory) = (now ≡ before) × (lost ≡ old_lost)

-- what a put or a row of puts leaves of the count
abbrev pub WriteLeaves : {T E : Type 0} → ℕ → ℕ → Result T E → Type 0
WriteLeaves before now (Ok done) = now ≡ before
WriteLeaves before now (Err e) = Rose before now
