-- Pages that are read, set and placed one after another (`ArePagesOf`), with the first fault held back.
use Rattle.std.specs.Prelude.{◌≡◌, ℕ, ◌+◌, ◌≤◌, ◌<◌, ℤ, List, [], ◌∷◌, ◌++◌, length, map, All, Option, Some, None, Result, Ok, Err, ⊤, Bool, true, false}
use Rattle.mt_scaled.specs.Results.{◌>>=◌}
use Rattle.mt_scaled.specs.declared.unit.Units.{Units}
use Rattle.mt_token.specs.Tokens.{Answer, source_tokens}
use Rattle.mt_family.specs.SetValue.{SetValue}
use Rattle.mt_family.specs.Sets.{units_of}
use Rattle.mt_box.specs.declared.place.Place.{Place}
use Rattle.mt_dvi.specs.Limits.{max_places}
use Rattle.mt_dvi.specs.Writable.{IsWritable}
use Rattle.mt_dvi.specs.WrittenPlaces.{all_places}
use Rattle.mt_rules.specs.declared.document.Formula.{Formula}
use Rattle.mt_reader.specs.Limits.{max_document_pages}
use Rattle.mt_reader.specs.PageReading.{CanGoOn, left_to_read, pages_ended}
use Rattle.mt_reader.specs.SourceReading as reading
use Rattle.mt_reader.specs.Sources.{word_token}
use Rattle.mt_reader.specs.Views.{ReaderView, pages_view}
use Rattle.mt_reader.specs.declared.page_reader.PageReader.{PageReader}
use Rattle.mt_pages.specs.Documents.{document_of}
use Rattle.mt_pages.specs.Pages.{document_lines, document_overfull, document_pages, found_in, pages_overfull, source_pages}
use Rattle.mt_pages.specs.inner.Placed.{IsToldFault, PlacedValue, place_rest}
use Rattle.mt_pages.specs.declared.pages.FirstFault.{FirstFault}
use Rattle.mt_pages.specs.declared.pages.FirstFault.TheVariants.{Nothing, Place as HeldPlace, Setting as HeldSetting}
use Rattle.mt_pages.specs.declared.pages.PageSetter.{PageSetter}
use Rattle.mt_status.specs.Notes.{has_too_many_places}
use Rattle.mt_status.specs.Origins.{IsPure, Told, refusal_origin}
use Rattle.mt_status.specs.declared.status.Status.{Status}

abbrev pub is_nothing : FirstFault → Bool
is_nothing Nothing = true
is_nothing held = false

abbrev pub is_setting : FirstFault → Bool
is_setting (HeldSetting status) = true
is_setting held = false

-- a refusal of setting comes of the files, and is not that there are too many places
pub record IsToldSetting (status : Status) : Type 0 where
  pub origin : refusal_origin status ≡ Told
  pub few : has_too_many_places status ≡ false

-- what is held back is a refusal that the source gives
abbrev pub IsTold : FirstFault → Type 0
IsTold Nothing = ⊤
IsTold (HeldPlace fault) = IsToldFault fault
IsTold (HeldSetting status) = IsToldSetting status

-- the answer where nothing more is read
abbrev pub end_of : FirstFault → Result (Option (List Place)) Status
end_of Nothing = Ok None
end_of (HeldPlace fault) = Err fault.status
end_of (HeldSetting status) = Err status

-- the formula that is noted where nothing more is read
abbrev pub noted_at_end : FirstFault → Option ℕ
noted_at_end Nothing = None
noted_at_end (HeldPlace fault) = fault.formula
noted_at_end (HeldSetting status) = None

-- these pages of the document of a source of these tokens were handed out; or the source has this fault of a token, which is ahead
abbrev pub IsReadAs : Units → Answer → List (List Formula) → ReaderView → Type 0
IsReadAs units (Ok list) read r = reading.IsReadOf units (map word_token list) read r
IsReadAs units (Err cause) read r = reading.fault_ahead r ≡ Some cause

-- the same of the source
abbrev pub IsReadFrom : SetValue → List ℕ → List (List Formula) → PageReader → Type 0
IsReadFrom fonts source read r = IsReadAs (units_of fonts) (source_tokens source) read (pages_view r)

-- the pages of a document that are left, after those that are placed
abbrev pub rest_pages : SetValue → ℤ → Result PlacedValue Status → List (List Formula) → Result (List (List Place)) Status
rest_pages set width placed pages = document_lines set width pages >>= place_rest placed

-- the same, where these pages are placed and there is room for so many places more, or by the fault that is held back
abbrev pub rest_after : SetValue → ℤ → List (List Place) → ℕ → FirstFault → List (List Formula) → Result (List (List Place)) Status
rest_after set width pages room Nothing rest = rest_pages set width (Ok (record { pages = pages; room = room })) rest
rest_after set width pages room (HeldPlace fault) rest = rest_pages set width (Err fault.status) rest
rest_after set width pages room (HeldSetting status) rest = Err status

-- the formula that has the first place too many, where the pages that are left are placed in so much room, or by the fault that is held back
abbrev pub overfull_after : SetValue → ℤ → ℕ → FirstFault → List (List Formula) → Option ℕ
overfull_after set width room Nothing rest = found_in (document_lines set width rest) (λ lines. pages_overfull room lines)
overfull_after set width room (HeldPlace fault) rest = found_in (document_lines set width rest) (λ lines. fault.formula)
overfull_after set width room (HeldSetting status) rest = None

-- these pages of the source were handed out; where it has a fault of a token, that is ahead
pub record ArePagesOf (fonts : SetValue) (width : ℤ) (source : List ℕ) (pages : List (List Place)) (s : PageSetter) : Type 0 where
  pub read : List (List Formula)
  pub reader : IsReadFrom fonts source read s.reader
  pub is : (rest : List (List Formula)) → document_pages fonts width (read ++ rest) ≡ rest_after fonts width pages s.room s.held rest
  pub overfull : (rest : List (List Formula)) → document_overfull fonts width (read ++ rest) ≡ overfull_after fonts width s.room s.held rest
  pub told : IsTold s.held
  pub few : length pages ≤ pages_ended s.reader
  pub room : length (all_places pages) + s.room ≡ max_places

-- the setter has handed out no page of its source
pub record IsAtStart (fonts : SetValue) (width : ℤ) (s : PageSetter) : Type 0 where
  pub source : List ℕ
  pub are : ArePagesOf fonts width source [] s

-- what a reader's next page is, or the refusal of the document
abbrev pub AreFormulasOf : SetValue → List ℕ → List (List Formula) → PageSetter → Result (Option (List Formula)) Status → Type 0
AreFormulasOf fonts source read new (Ok (Some page)) = IsReadFrom fonts source (read ++ page ∷ []) new.reader
AreFormulasOf fonts source read new (Ok None) = document_of fonts source ≡ Ok read
AreFormulasOf fonts source read new (Err status) = IsPure (document_of fonts source) (Err status)

-- nothing but the reader changes
pub record KeepsPlaces (old new : PageSetter) : Type 0 where
  pub room : new.room ≡ old.room
  pub held : new.held ≡ old.held

abbrev pub append_page : List (List Place) → Option (List Place) → List (List Place)
append_page pages None = pages
append_page pages (Some places) = pages ++ places ∷ []

abbrev pub count_places : Option (List Place) → ℕ
count_places None = 0
count_places (Some places) = length places

-- a page is set and placed, or a fault is held back, where there were room and such a fault before
pub record PlacesPage (fonts : SetValue) (width : ℤ) (page : List Formula) (old_room : ℕ) (old_held : FirstFault) (new_room : ℕ) (new_held : FirstFault) (places : Option (List Place)) : Type 0 where
  pub is : (pages : List (List Place)) (rest : List (List Formula))
      → rest_after fonts width pages old_room old_held (page ∷ rest) ≡ rest_after fonts width (append_page pages places) new_room new_held rest
  pub overfull : (rest : List (List Formula)) → overfull_after fonts width old_room old_held (page ∷ rest) ≡ overfull_after fonts width new_room new_held rest
  pub told : IsTold old_held → IsTold new_held
  pub room : count_places places + new_room ≡ old_room

abbrev pub SetsPage : SetValue → ℤ → List Formula → PageSetter → PageSetter → Option (List Place) → Type 0
SetsPage fonts width page old new places = PlacesPage fonts width page old.room old.held new.room new.held places

abbrev pub IsNextOf : SetValue → ℤ → List ℕ → List (List Place) → PageSetter → Result (Option (List Place)) Status → Type 0
IsNextOf fonts width source pages new (Ok (Some places)) = ArePagesOf fonts width source (pages ++ places ∷ []) new
IsNextOf fonts width source pages new (Ok None) = source_pages fonts width source ≡ Ok pages
IsNextOf fonts width source pages new (Err status) = IsPure (source_pages fonts width source) (Err status)

-- a page that was handed out can be written, and there is less left to be read
pub record GoesOnAfter (fonts : SetValue) (old new : PageSetter) (page : List Place) : Type 0 where
  pub writable : All (IsWritable fonts) page
  pub falls : left_to_read new.reader < left_to_read old.reader
  pub pages : pages_ended new.reader ≤ max_document_pages
  pub more : CanGoOn new.reader
