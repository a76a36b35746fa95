-- What the code keeps of pages (`Shows`, `AreShown`).
use Rattle.std.specs.Prelude.{◌≡◌, ℕ, ◌+◌, ◌<◌, ℤ, pos, negsuc, Option, None, Some, List, [], ◌∷◌, ◌++◌, length, max, Bool, ◌==◌, ◌||◌, ⊤}
use Rattle.std.specs.Int.{bit_at}
use Rattle.std.specs.List.{list_any}
use Rattle.mt_family.specs.SetValue.{SetValue}
use Rattle.mt_dvi.specs.Edges.{lower_edge, right_edge, greatest_edge}
use Rattle.mt_dviops.specs.declared.selected.SelectedFonts.{SelectedFonts}
use Rattle.mt_dviops.specs.declared.page.PageCopy.{PageCopy}
use Rattle.mt_dviops.specs.declared.totals.Totals.{Totals}
use Rattle.mt_dvi.specs.File.{empty_page}
use Rattle.mt_dviops.specs.Source.{SourcePage}
use Rattle.mt_dvi.specs.Encoded.{pre_bytes}
use Rattle.mt_dviops.specs.Result.{greatest_page_depth, is_selected, last_bop, pages_bytes, places_in, places_on, post_of, post_post_bytes, padding_bytes, with_tail}

-- a font is among the selected ones
abbrev pub has_selected : SelectedFonts → ℕ → Bool
has_selected fonts n = bit_at fonts.bits n == 1

-- what is kept of a page is what the page says
pub record Shows (fonts : SetValue) (copy : PageCopy) (page : SourcePage) : Type 0 where
  pub full : length copy.counts.now ≡ 40
  pub short : length copy.body.now < 4294967296
  pub counts : copy.counts.now ≡ page.counts
  pub body : copy.body.now ≡ page.body
  pub selected : (n : ℕ) → has_selected copy.fonts n ≡ list_any (λ (m : ℕ). m == n) page.selected
  pub depth : copy.depth ≡ page.depth
  pub places : copy.places ≡ length page.page.places
  pub tallest : copy.tallest ≡ greatest_edge (lower_edge fonts) 0 (places_in page.page)
  pub widest : copy.widest ≡ greatest_edge (right_edge fonts) 0 (places_in page.page)

-- the same of each page
abbrev pub AreShown : SetValue → List PageCopy → List SourcePage → Type 0
AreShown fonts [] [] = ⊤
AreShown fonts [] (page ∷ pages) = ⊥
AreShown fonts (copy ∷ copies) [] = ⊥
AreShown fonts (copy ∷ copies) (page ∷ pages) = Shows fonts copy page × AreShown fonts copies pages

-- as much of a page as its bytes and post need
abbrev pub told : PageCopy → SourcePage
told copy = record {
  counts = copy.counts.now;
  body = copy.body.now;
  selected = [];
  depth = copy.depth;
  page = empty_page [];
}

abbrev pub all_told : List PageCopy → List SourcePage
all_told [] = []
all_told (copy ∷ copies) = told copy ∷ all_told copies

-- how many bytes a page has from bop to eop
abbrev pub page_length : SourcePage → ℕ
page_length page = length page.body + 46

abbrev pub pages_length : List SourcePage → ℕ
pages_length [] = 0
pages_length (page ∷ pages) = page_length page + pages_length pages

-- the offset of a bop, or -1
abbrev pub pointer_of : Option ℕ → ℤ
pointer_of None = negsuc 0
pointer_of (Some at) = pos at

-- the totals of these pages
pub record IsTotal (fonts : SetValue) (totals : Totals) (pages : List SourcePage) : Type 0 where
  pub bytes : totals.bytes ≡ pages_length pages
  pub places : totals.places ≡ length (places_on pages)
  pub depth : totals.depth ≡ greatest_page_depth 0 pages
  pub tallest : totals.tallest ≡ greatest_edge (lower_edge fonts) 0 (places_on pages)
  pub widest : totals.widest ≡ greatest_edge (right_edge fonts) 0 (places_on pages)
  pub selected : (n : ℕ) → has_selected totals.fonts n ≡ is_selected pages n

-- one page more
pub record IncludesPage (old new : Totals) (copy : PageCopy) : Type 0 where
  pub bytes : new.bytes ≡ old.bytes + (length copy.body.now + 46)
  pub places : new.places ≡ old.places + copy.places
  pub depth : new.depth ≡ max old.depth copy.depth
  pub tallest : new.tallest ≡ max old.tallest copy.tallest
  pub widest : new.widest ≡ max old.widest copy.widest
  pub selected : (n : ℕ) → has_selected new.fonts n ≡ (has_selected old.fonts n || has_selected copy.fonts n)

-- what is before the pages, and before post, with these definitions
abbrev pub head_of : ℤ → List ℕ → List ℕ
head_of mag definitions = pre_bytes mag ++ definitions

abbrev pub front_of : ℤ → List ℕ → List SourcePage → List ℕ
front_of mag definitions pages =
    head_of mag definitions ++ pages_bytes (length (head_of mag definitions)) (negsuc 0) pages

-- the whole file
unfoldable pub file_with_totals : ℤ → List ℕ → Totals → List SourcePage → List ℕ
file_with_totals mag definitions totals pages =
    with_tail
    (front_of mag definitions pages
    ++ post_of mag (last_bop (length (head_of mag definitions)) (negsuc 0) pages)
    totals.tallest totals.widest totals.depth (length pages)
    ++ definitions
    ++ post_post_bytes (length (front_of mag definitions pages)))

-- how long it is, where the definitions have so many bytes, and the pages
abbrev pub padded : ℕ → ℕ
padded count = count + length (padding_bytes count)

abbrev pub file_length : ℕ → ℕ → ℕ
file_length definitions pages = padded (50 + definitions + definitions + pages)
