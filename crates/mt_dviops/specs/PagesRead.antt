-- That the machine reads a file of chosen pages as those pages (`ReadsChosen`).
use Rattle.std.specs.Prelude.{◌≡◌, ℕ, zero, suc, List, [], ◌∷◌, ◌++◌, map, slice_get, Option, Some, None, Ok, ⊤}
use Rattle.mt_family.specs.SetValue.{SetValue}
use Rattle.mt_dvi.specs.File.{File, Page, read}
use Rattle.mt_dviops.specs.Copied.{Choice, Numbered, Every}

-- the machine reads the bytes to their end as these pages, each with its counts, its places and its specials
pub record IsReadAs (fonts : SetValue) (bytes : List ℕ) (pages : List Page) : Type 0 where
  pub file : File
  pub reads : read fonts bytes ≡ Ok file
  pub pages_are : file.pages ≡ pages

-- the same of each file
abbrev pub AllReadAs : SetValue → List (List ℕ) → List (List Page) → Type 0
AllReadAs fonts [] [] = ⊤
AllReadAs fonts [] (pages ∷ more) = ⊥
AllReadAs fonts (bytes ∷ files) [] = ⊥
AllReadAs fonts (bytes ∷ files) (pages ∷ more) = IsReadAs fonts bytes pages × AllReadAs fonts files more

abbrev pub joined_pages : List (List Page) → List Page
joined_pages [] = []
joined_pages (pages ∷ more) = pages ++ joined_pages more

-- the page of a number, from 1 on
abbrev pub page_of_number : List Page → ℕ → Option Page
page_of_number pages zero = None
page_of_number pages (suc n) = slice_get pages n

-- the new pages are those that are chosen of the old ones
abbrev pub AreChosen : Choice → List Page → List Page → Type 0
AreChosen (Numbered numbers) old new =
    map (page_of_number old) numbers ≡ map (λ (page : Page). Some page) new
AreChosen Every old new = new ≡ old

-- the files are read to their ends, and the new file as the chosen pages of theirs
pub record ReadsChosen (fonts : SetValue) (files : List (List ℕ)) (choice : Choice) (bytes : List ℕ) : Type 0 where
  pub old : List (List Page)
  pub new : List Page
  pub from : AllReadAs fonts files old
  pub chosen_are : AreChosen choice (joined_pages old) new
  pub reads : IsReadAs fonts bytes new
