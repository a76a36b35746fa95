-- What of a source is sought for a status (`sought_of`).
use Rattle.std.specs.Prelude.{ℕ, ◌==◌, ◌&&◌, Bool, true, false, Option, Some, None}
use Rattle.mt_status.specs.Statuses.{subject_of}
use Rattle.mt_status.specs.declared.notes.Notes.{Notes}
use Rattle.mt_status.specs.declared.status.Status.{Status}
use Rattle.mt_status.specs.declared.subject.Numbers.{Numbers}
use Rattle.mt_status.specs.declared.subject.Numbers.TheVariants.{Token, Formula as OfFormula, Page}
use Rattle.mt_status.specs.declared.subject.Subject.{Subject}
use Rattle.mt_status.specs.declared.subject.Subject.TheVariants as subjects
use Rattle.mt_locate.specs.declared.sought.Sought.{Sought}
use Rattle.mt_locate.specs.declared.sought.Sought.TheVariants.{Byte, Fault, Formula, Nothing}

-- the formula that is noted as the one with a place too many
abbrev pub noted_formula : Option ℕ → Sought
noted_formula None = Nothing
noted_formula (Some n) = Formula n

abbrev pub sought_in : Subject → Notes → Sought
sought_in (subjects.Byte offset cause) notes = Byte offset cause
sought_in (subjects.Fault numbers) notes = Fault numbers
sought_in (subjects.Formula n family) notes = Formula n
sought_in subjects.Places notes = noted_formula notes.formula
sought_in subject notes = Nothing

abbrev pub sought_of : Status → Notes → Sought
sought_of status notes = sought_in (subject_of status) notes

-- the number of the formula that is sought, if one is
abbrev pub sought_formula : Sought → Option ℕ
sought_formula (Formula n) = Some n
sought_formula sought = None

-- whether it is found by reading the source
abbrev pub needs_reading : Sought → Bool
needs_reading (Fault numbers) = true
needs_reading (Formula n) = true
needs_reading sought = false

-- whether the numbers of a status are those of a fault
abbrev pub is_same : Numbers → Numbers → Bool
is_same (Token n token cause) (Token m index number) = ((n == m) && (token == index)) && (cause == number)
is_same (OfFormula n) (OfFormula m) = n == m
is_same (Page n) (Page m) = n == m
is_same one other = false
