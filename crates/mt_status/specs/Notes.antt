-- What is noted beside a status (`NotesFormula`, `NotesFault`).
use Rattle.std.specs.Prelude.{◌≡◌, ℕ, Bool, true, false, Option, Some, None, Result, Ok, Err}
use Rattle.mt_status.specs.declared.status.Much.TheVariants.{Places}
use Rattle.mt_status.specs.declared.status.Status.{Status}
use Rattle.mt_status.specs.declared.status.Status.TheVariants.{TooMuch}

-- whether there are too many places
abbrev pub has_too_many_places : Status → Bool
has_too_many_places (TooMuch Places count) = true
has_too_many_places status = false

abbrev pub is_noted : Option ℕ → Bool
is_noted None = false
is_noted (Some n) = true

-- the number of a formula is noted exactly where a source has too many places
abbrev pub NotesFormula : Status → Option ℕ → Type 0
NotesFormula status formula = is_noted formula ≡ has_too_many_places status

-- the same of an answer: where there is no refusal, no formula is noted
abbrev pub NotesFault : {T : Type 0} → Result T Status → Option ℕ → Type 0
NotesFault (Ok x) formula = formula ≡ None
NotesFault (Err status) formula = NotesFormula status formula

-- whether an answer is that there are too many places
abbrev pub is_too_many : {T : Type 0} → Result T Status → Bool
is_too_many (Ok x) = false
is_too_many (Err status) = has_too_many_places status
