-- A file of chosen pages of other files, or why there is none (`copied`).
use Rattle.std.specs.Prelude.{◌≡◌, ℕ, zero, suc, ◌+◌, ℤ, pos, List, [], ◌∷◌, ◌++◌, length, slice_get, Option, Some, None, Result, Ok, Err, nat_lt, if◌then◌else◌}
use Rattle.std.specs.Ordering.{int_eq}
use Rattle.mt_scaled.specs.Results.{◌>>=◌, ◌>>◌}
use Rattle.mt_family.specs.SetValue.{SetValue}
use Rattle.mt_dvi.specs.Limits.{max_dvi, max_dvi_pages, max_places}
use Rattle.mt_dvi.specs.File.{Fault}
use Rattle.mt_dviops.specs.Source.{SourceFile, SourcePage, source_file_of}
use Rattle.mt_dviops.specs.Result.{copied_bytes, places_on}

-- which pages: those of these numbers, from 1 on, of the only file, or all pages of all files
pub data Choice : Type 0 where
  Numbered : List ℕ → Choice
  Every : Choice

-- why there is no file
pub data Refusal : Type 0 where
  -- the first file with a fault, counted from 0, and its first fault
  BadFile : ℕ → Fault → Refusal
  -- the first number that no page has
  PageOutOfRange : ℕ → Refusal
  -- the first file, counted from 0, with another magnification than file 0
  MagClash : ℕ → Refusal
  -- how many pages, places and bytes there would be
  TooManyPages : ℕ → Refusal
  TooManyPlaces : ℕ → Refusal
  TooLong : ℕ → Refusal

abbrev pub CopyAnswer : Type 0 → Type 0
CopyAnswer T = Result T Refusal

-- the file of this number
abbrev pub file_answer : ℕ → Result SourceFile Fault → CopyAnswer SourceFile
file_answer k (Ok file) = Ok file
file_answer k (Err fault) = Err (BadFile k fault)

-- the files, of which the first has number k
abbrev pub files_answer : SetValue → ℕ → List (List ℕ) → CopyAnswer (List SourceFile)
files_answer fonts k [] = Ok []
files_answer fonts k (bytes ∷ more) = do
  file ← file_answer k (source_file_of fonts bytes)
  files ← files_answer fonts (k + 1) more
  Ok (file ∷ files)

abbrev pub all_pages : List SourceFile → List SourcePage
all_pages [] = []
all_pages (file ∷ files) = file.pages ++ all_pages files

abbrev pub page_answer : ℕ → Option SourcePage → CopyAnswer SourcePage
page_answer n None = Err (PageOutOfRange n)
page_answer n (Some page) = Ok page

abbrev pub page_numbered : List SourcePage → ℕ → Option SourcePage
page_numbered pages zero = None
page_numbered pages (suc n) = slice_get pages n

abbrev pub pages_numbered : List SourcePage → List ℕ → CopyAnswer (List SourcePage)
pages_numbered pages [] = Ok []
pages_numbered pages (n ∷ numbers) = do
  page ← page_answer n (page_numbered pages n)
  more ← pages_numbered pages numbers
  Ok (page ∷ more)

abbrev pub mag_of : List SourceFile → ℤ
mag_of [] = pos 0
mag_of (file ∷ files) = file.mag

-- the files, of which the first has number k, have this magnification
abbrev pub test_mags : ℤ → ℕ → List SourceFile → CopyAnswer Unit
test_mags mag k [] = Ok tt
test_mags mag k (file ∷ files) =
    if int_eq file.mag mag then test_mags mag (k + 1) files else Err (MagClash k)

abbrev pub chosen : Choice → List SourceFile → CopyAnswer (List SourcePage)
chosen (Numbered numbers) files = pages_numbered (all_pages files) numbers
chosen Every files = do
  test_mags (mag_of files) 0 files
  Ok (all_pages files)

-- at most so many
abbrev pub test_count : ℕ → (ℕ → Refusal) → ℕ → CopyAnswer Unit
test_count most refusal count = if nat_lt most count then Err (refusal count) else Ok tt

-- a file of these pages
abbrev pub copied_pages : SetValue → ℤ → List SourcePage → CopyAnswer (List ℕ)
copied_pages fonts mag pages = do
  test_count max_dvi_pages TooManyPages (length pages)
  test_count max_places TooManyPlaces (length (places_on pages))
  test_count max_dvi TooLong (length (copied_bytes fonts mag pages))
  Ok (copied_bytes fonts mag pages)

-- a file of the chosen pages
unfoldable pub copied : SetValue → List (List ℕ) → Choice → CopyAnswer (List ℕ)
copied fonts files choice = do
  sources ← files_answer fonts 0 files
  pages ← chosen choice sources
  copied_pages fonts (mag_of sources) pages

-- the bytes are the file of the chosen pages of these files
abbrev pub Copied : SetValue → List (List ℕ) → Choice → List ℕ → Type 0
Copied fonts files choice bytes = copied fonts files choice ≡ Ok bytes
