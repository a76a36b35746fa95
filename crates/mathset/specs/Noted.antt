-- What a run notes beside its status (`AreUnitsOf`, `request_overfull`), and where (`sets_source`, `refuses_source`).
use Rattle.std.specs.Prelude.{◌≡◌, ℕ, ℤ, Bool, true, false, List, Option, Some, None, Result, Ok, Err, ⊤}
use Rattle.mt_family.specs.SetValue.{SetValue}
use Rattle.mt_family.specs.Sets.{units_of}
use Rattle.mt_outside.specs.declared.files.Held.{Held}
use Rattle.mt_scaled.specs.declared.unit.Units.{Units}
use Rattle.mt_pages.specs.Pages.{found_in, source_overfull}
use Rattle.mt_token.specs.Tokens.{max_source}
use Rattle.mt_words.specs.RequestValues.{SourceValue}
use Rattle.mt_words.specs.declared.request.Request.{Request}
use Rattle.mt_words.specs.declared.request.Request.TheVariants.{Set, Places}
use Rattle.mt_status.specs.Statuses.{subject_of}
use Rattle.mt_status.specs.declared.status.Status.{Status}
use Rattle.mt_status.specs.declared.subject.Subject.{Subject}
use Rattle.mt_status.specs.declared.subject.Subject.TheVariants as subjects
use Rattle.mathset.specs.FontSteps.{font_set_step}
use Rattle.mathset.specs.Reads.{file_of}

-- whether a source of the files is to be set
abbrev pub sets_source : Option Request → Bool
sets_source (Some (Set words)) = true
sets_source (Some (Places words)) = true
sets_source request = false

-- whether a status is about a source: a byte of it, the fault of its reading, a formula or its places
abbrev pub is_of_source : Subject → Bool
is_of_source (subjects.Byte offset cause) = true
is_of_source (subjects.Fault numbers) = true
is_of_source (subjects.Formula n family) = true
is_of_source subjects.Places = true
is_of_source subject = false

abbrev pub refuses_source : Status → Bool
refuses_source status = is_of_source (subject_of status)

abbrev pub is_refused_source : {T : Type 0} → Result T Status → Bool
is_refused_source (Ok value) = false
is_refused_source (Err status) = refuses_source status

-- what em and ex are in these fonts, where they are noted
abbrev pub AreUnitsIn : Result SetValue Status → Option Units → Type 0
AreUnitsIn fonts None = ⊤
AreUnitsIn (Ok fonts) (Some units) = units ≡ units_of fonts
AreUnitsIn (Err status) (Some units) = ⊥

-- those of the fonts in which a source is set; of another request none are noted
abbrev pub AreUnitsOf : Option Request → List Held → Option Units → Type 0
AreUnitsOf (Some (Set words)) files units = AreUnitsIn (font_set_step words.fonts files).result units
AreUnitsOf (Some (Places words)) files units = AreUnitsIn (font_set_step words.fonts files).result units
AreUnitsOf request files units = units ≡ None

-- the formula of a source that has the first place too many, where the source is fetched and set in these fonts
abbrev pub file_overfull : List ℕ → ℤ → SetValue → List Held → Option ℕ
file_overfull name width fonts files = found_in (file_of name max_source files).result (λ source. source_overfull fonts width source)

-- the same, where the fonts are read first
abbrev pub words_overfull : SourceValue → List Held → Option ℕ
words_overfull words files = found_in (font_set_step words.fonts files).result (λ fonts. file_overfull words.source words.line fonts files)

-- the same of a request; where no source is to be set, there is none
abbrev pub request_overfull : Option Request → List Held → Option ℕ
request_overfull (Some (Set words)) files = words_overfull words files
request_overfull (Some (Places words)) files = words_overfull words files
request_overfull request files = None
