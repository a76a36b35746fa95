-- What a run is to write (`Makes`): a DVI file of pages that are set, one of pages that are copied, or a text; and
-- which files are lean (`IsLean`).
use Rattle.std.specs.Prelude.{◌≡◌, ℕ, List, ⊤}
use Rattle.mt_family.specs.SetValue.{SetValue}
use Rattle.mt_dviops.specs.Copied.{Choice, Copied}
use Rattle.mt_dviops.specs.PagesRead.{ReadsChosen}
use Rattle.mt_pages.specs.Typeset.{TypesetValue}
use Rattle.mt_dvi.specs.Lean.{Lean}
use Rattle.mt_dvi.specs.Written.{Written}

-- pages to be copied: chosen ones of DVI files, which are read with these fonts
pub record CopyValue : Type 0 where
  pub fonts : SetValue
  pub files : List (List ℕ)
  pub choice : Choice

-- what a run is to write
pub data Product : Type 0 where
  -- one DVI file of these pages
  File : (typeset : TypesetValue) → Product
  -- the DVI file of these copied pages
  Copy : (copy : CopyValue) → Product
  -- these bytes
  Text : (text : List ℕ) → Product

-- the bytes are exactly the file of these copied pages, and the machine of tex.web, part 31, reads them as the pages
-- that are chosen of their files, in order, each with its counts, its places and its specials
pub record CopiesPages (copy : CopyValue) (bytes : List ℕ) : Type 0 where
  pub exact : Copied copy.fonts copy.files copy.choice bytes
  pub read : ReadsChosen copy.fonts copy.files copy.choice bytes

-- the bytes are the product: one DVI file of these pages in these fonts, the file of these copied pages, or exactly
-- this text
abbrev pub Makes : Product → List ℕ → Type 0
Makes (File typeset) bytes = Written typeset.fonts bytes typeset.pages
Makes (Copy copy) bytes = CopiesPages copy bytes
Makes (Text text) bytes = bytes ≡ text

-- a DVI file of pages that are set is lean; of copied pages and of a text nothing is said
abbrev pub IsLean : Product → List ℕ → Type 0
IsLean (File typeset) bytes = Lean typeset.fonts bytes
IsLean (Copy copy) bytes = ⊤
IsLean (Text text) bytes = ⊤
