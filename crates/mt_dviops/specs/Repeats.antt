-- That the bytes of a page as they are copied say what the page says (`Repeats`).
use Rattle.std.specs.Prelude.{◌≡◌, ℕ, ◌+◌, ◌<◌, ◌≤◌, List, ◌++◌, length, max, All, Some, [], ◌∷◌, ⊤}
use Rattle.mt_family.specs.SetValue.{SetValue}
use Rattle.mt_dvi.specs.Limits.{max_places}
use Rattle.mt_dvi.specs.Codes.{Definition, four_byte_numbers}
use Rattle.mt_dvi.specs.Fonts.{first_definition}
use Rattle.mt_dvi.specs.Machine.{Machine, at_bop, select_effect, without_place}
use Rattle.mt_dvi.specs.File.{File, InPage, Page, advance, empty_page, reading}
use Rattle.mt_dviops.specs.Source.{SourcePage}

-- a font of the set is selected by its own number
abbrev pub SelectsOwn : SetValue → List Definition → ℕ → Type 0
SelectsOwn fonts definitions n = (m : Machine)
    → select_effect fonts m (first_definition definitions n) ≡ without_place (record m { font = Some n })

-- a file after a bop with these counts
abbrev pub begun : File → List ℕ → File
begun base counts = record base { phase = InPage; machine = at_bop; page = empty_page counts }

-- the same with a page so far
abbrev pub in_copy : File → Machine → Page → ℕ → File
in_copy base m page depth = record base {
  phase = InPage;
  machine = m;
  page = page;
  deepest = max base.deepest depth;
  place_count = base.place_count + length page.places;
}

-- after a bop in any other file, these bytes lead to the machine and the page to which the page's own opcodes have led
pub record Repeats (fonts : SetValue) (copy : SourcePage) (m : Machine) (page : Page) : Type 0 where
  pub deep : length m.saved ≤ copy.depth
  pub there : All (λ (n : ℕ). n < length fonts.fonts) copy.selected
  pub reads : (base : File) (rest : List ℕ) → All (SelectsOwn fonts base.fonts) copy.selected
      → base.place_count + length page.places ≤ max_places
      → reading fonts (begun base page.counts) 0 (copy.body ++ rest)
      ≡ reading fonts (advance (in_copy base m page copy.depth) (length copy.body)) 0 rest

-- a page whose bytes say what it says, once it has ended
pub record IsCopy (fonts : SetValue) (copy : SourcePage) : Type 0 where
  pub machine : Machine
  pub empty : machine.saved ≡ []
  pub repeats : Repeats fonts copy machine copy.page
  pub long : length copy.counts ≡ 40
  pub counts : four_byte_numbers 10 copy.counts ≡ copy.page.counts

abbrev pub AreCopies : SetValue → List SourcePage → Type 0
AreCopies fonts [] = ⊤
AreCopies fonts (copy ∷ copies) = IsCopy fonts copy × AreCopies fonts copies
