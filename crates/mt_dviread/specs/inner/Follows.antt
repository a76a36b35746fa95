-- What an operation does to what the reader keeps of a file (`Goes`, `Follows`).
use Rattle.std.specs.Prelude.{◌≡◌, ◌<◌, ◌^◌, Option, Some, None, Result, Ok, Err, IfSome, Bool, true, false, nat_le}
use Rattle.mt_family.specs.SetValue.{SetValue}
use Rattle.mt_box.specs.declared.place.Place.{Place}
use Rattle.mt_dvi.specs.Codes as codes
use Rattle.mt_dvi.specs.File as files
use Rattle.mt_dvi.specs.File.{Continuation, Continues, Ends, Fails}
use Rattle.mt_dvi.specs.Limits.{max_places}
use Rattle.mt_dvi.specs.Machine.{TooMany}
use Rattle.mt_dviread.specs.declared.error.Cause.{Cause}
use Rattle.mt_dviread.specs.declared.deed.Deed.{Deed}
use Rattle.mt_dviread.specs.declared.deed.Deed.TheVariants.{Performs}
use Rattle.mt_dviread.specs.declared.file.OpenFile.{OpenFile}
use Rattle.mt_dviread.specs.Errors.{cause_of}
use Rattle.mt_dviread.specs.Deeds.{Changes, IsDeed, count_with}
use Rattle.mt_dviread.specs.Sees.{Sees}

-- the operation is refused
abbrev pub Refused : Cause → Continuation → Type 0
Refused cause continuation = IfSome (cause_of cause) (λ c. continuation ≡ Fails c)

-- the file goes on, with this change of its pages
pub record Advances (fonts : SetValue) (deed : Deed) (file : files.File) (new : OpenFile) (continuation : Continuation) : Type 0 where
  pub next : files.File
  pub continues : continuation ≡ Continues next
  pub sees : Sees fonts new next
  pub changes : Changes deed file next

-- the result is what comes of an operation that does this
abbrev pub Goes : SetValue → Deed → files.File → Result Unit Cause → OpenFile → Continuation → Type 0
Goes fonts deed file (Ok done) new continuation = Advances fonts deed file new continuation
Goes fonts deed file (Err cause) new continuation = Refused cause continuation

-- the result is what comes of an operation that fills a place, if any
abbrev pub Fills : SetValue → files.File → Result (Option Place) Cause → OpenFile → Continuation → Type 0
Fills fonts file (Ok place) new continuation = Advances fonts (Performs place) file new continuation
Fills fonts file (Err cause) new continuation = Refused cause continuation

-- the result is what comes of this operation in this part of the file
abbrev pub Does : SetValue → files.Phase → files.File → codes.Operation → Result Deed Cause → OpenFile → Continuation → Type 0
Does fonts phase file op (Ok deed) new continuation =
    Advances fonts deed file new continuation × IsDeed deed phase op
Does fonts phase file op (Err cause) new continuation = Refused cause continuation

-- the file ends
pub record IsLast (file : files.File) (new : OpenFile) (continuation : Continuation) : Type 0 where
  pub last : files.File
  pub ends : continuation ≡ Ends last
  pub pages : last.pages ≡ file.pages
  pub mag : last.mag ≡ new.mag
  pub small : file.post_at < 2 ^ 32

abbrev pub EndsFile : files.File → Result Unit Cause → OpenFile → Continuation → Type 0
EndsFile file (Ok done) new continuation = IsLast file new continuation
EndsFile file (Err cause) new continuation = Refused cause continuation

-- the same of an operation that may end the file
abbrev pub Follows : SetValue → files.Phase → files.File → codes.Operation → Result (Option Deed) Cause → OpenFile → Continuation → Type 0
Follows fonts phase file op (Ok (Some deed)) new continuation =
    Advances fonts deed file new continuation × IsDeed deed phase op
Follows fonts phase file op (Ok None) new continuation = IsLast file new continuation
Follows fonts phase file op (Err cause) new continuation = Refused cause continuation

-- there is no room for the place
abbrev pub is_full : OpenFile → Option Place → Bool
is_full open_file None = false
is_full open_file (Some place) = nat_le max_places open_file.place_count

-- the result of counting a place, and the file after it
abbrev pub Counts : Result Unit Cause → OpenFile → OpenFile → Option Place → Type 0
Counts (Ok done) old new place =
    (is_full old place ≡ false) × (new ≡ record old { place_count = count_with old.place_count place })
Counts (Err cause) old new place =
    IfSome (cause_of cause) (λ c. (c ≡ TooMany) × (is_full old place ≡ true))
