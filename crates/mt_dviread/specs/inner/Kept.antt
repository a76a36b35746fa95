-- What `read_dvi` keeps of the places of a file (`Keeps`).
use Rattle.std.specs.Prelude.{◌≡◌, ℕ, ◌≤◌, ◌+◌, List, [], ◌∷◌, ◌++◌, length, ◌⊎◌, Result, Ok, Err, IfSome}
use Rattle.mt_family.specs.SetValue.{SetValue}
use Rattle.mt_box.specs.declared.place.Place.{Place}
use Rattle.mt_dvi.specs.File.{DviFault, Fault, File, places_of}
use Rattle.mt_dvi.specs.WrittenPlaces.{all_places}
use Rattle.mt_dviread.specs.declared.deed.Deed.{Deed}
use Rattle.mt_dviread.specs.declared.error.DviError.{DviError}
use Rattle.mt_dviread.specs.declared.file.OpenFile.{OpenFile}
use Rattle.mt_dviread.specs.declared.file.Phase.TheVariants.{BeforePre}
use Rattle.mt_dviread.specs.declared.deed.Deed.TheVariants.{EndsPage}
use Rattle.mt_dviread.specs.Deeds.{places_of_page}
use Rattle.mt_dviread.specs.Errors.{fault_of}
use Rattle.mt_dviread.specs.Sees.{IsReading}

-- the places of the pages that have ended, after a deed
abbrev pub lists_after : Deed → List (List Place) → List Place → List (List Place)
lists_after EndsPage pages page = pages ++ page ∷ []
lists_after deed pages page = pages

-- these are the places of the pages that have ended, and of the page that has begun; all of them are counted
pub record Keeps (pages : List (List Place)) (page : List Place) (file : File) : Type 0 where
  pub ended : places_of file ≡ pages
  pub begun : places_of_page file.page ≡ page
  pub counted : length (all_places pages) + length page ≤ file.place_count

-- so far the file has been read, and this has been kept of it
pub record IsKeeping (fonts : SetValue) (bytes : List ℕ) (open_file : OpenFile) (pages : List (List Place)) (page : List Place) : Type 0 where
  pub file : File
  pub reading : IsReading fonts bytes open_file file
  pub keeps : Keeps pages page file
  -- no opcode has been read, or a byte at least
  pub first : (open_file.phase ≡ BeforePre) ⊎ (1 ≤ open_file.at)

-- the opcodes of a run have been taken, or one of them is refused, which is none at offset 0
abbrev pub RunKeeps : SetValue → List ℕ → Result Unit DviError → OpenFile → List (List Place) → List Place → Type 0
RunKeeps fonts bytes (Ok done) new pages page = IsKeeping fonts bytes new pages page
RunKeeps fonts bytes (Err error) new pages page =
    IfSome (fault_of error) (λ (fault : Fault). DviFault fonts bytes fault)
    × ((fault : Fault) → DviFault fonts bytes fault → fault.at ≡ 0 → ⊥)
