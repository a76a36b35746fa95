-- The file of the joined parts of a document, against the file of the whole document (`AllWritten`, `parts_pages`, `SamePages`).
use Rattle.std.specs.Prelude.{◌≡◌, ℕ, List, [], ◌∷◌, ◌++◌, map, Ok, ⊤}
use Rattle.mt_family.specs.SetValue.{SetValue}
use Rattle.mt_box.specs.declared.place.Place.{Place}
use Rattle.mt_dvi.specs.File.{File, Page, PageSpecial, read}
use Rattle.mt_dvi.specs.Machine.{WrittenPlace}
use Rattle.mt_dvi.specs.Written.{Written}
use Rattle.mt_dvi.specs.WrittenPlaces.{numbered_pages}

-- the pages of a part, each as its places
abbrev pub Part : Type 0
Part = List (List Place)

-- each file is that of the pages of its part, as the writer makes it
abbrev pub AllWritten : SetValue → List (List ℕ) → List Part → Type 0
AllWritten fonts [] [] = ⊤
AllWritten fonts [] (part ∷ parts) = ⊥
AllWritten fonts (bytes ∷ files) [] = ⊥
AllWritten fonts (bytes ∷ files) (part ∷ parts) = Written fonts bytes part × AllWritten fonts files parts

-- the pages of the whole document
abbrev pub all_parts : List Part → List (List Place)
all_parts [] = []
all_parts (part ∷ parts) = part ++ all_parts parts

-- the pages of the joined file: count 0 numbers the pages of each part from 1
abbrev pub parts_pages : SetValue → List Part → List Page
parts_pages fonts [] = []
parts_pages fonts (part ∷ parts) = numbered_pages fonts 1 part ++ parts_pages fonts parts

-- a page but for its counts: its places, each with whether it goes by put, and its specials
pub record PageContent : Type 0 where
  pub places : List WrittenPlace
  pub specials : List PageSpecial

abbrev pub content_of : Page → PageContent
content_of page = record { places = page.places; specials = page.specials }

-- the machine reads both files to their ends, as the same pages but for their counts
pub record SamePages (fonts : SetValue) (one other : List ℕ) : Type 0 where
  pub file : File
  pub reads : read fonts one ≡ Ok file
  pub other_file : File
  pub other_reads : read fonts other ≡ Ok other_file
  pub same : map content_of file.pages ≡ map content_of other_file.pages
