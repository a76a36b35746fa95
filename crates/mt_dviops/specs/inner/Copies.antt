-- What the code keeps of a file whose pages are copied (`Holds`).
use Rattle.std.specs.Prelude.{◌≡◌, ℕ, ◌-◌, ◌<◌, List, [], ◌∷◌, length, ◌==◌, ⊤}
use Rattle.std.specs.List.{list_any}
use Rattle.mt_family.specs.SetValue.{SetValue}
use Rattle.mt_dvi.specs.Codes.{bytes_from}
use Rattle.mt_dvi.specs.Edges.{lower_edge, right_edge, greatest_edge}
use Rattle.mt_dviops.specs.declared.copies.CopiedPage.{CopiedPage}
use Rattle.mt_dviops.specs.declared.copies.Copies.{Copies}
use Rattle.mt_dviops.specs.Source.{SourceFile, SourcePage}
use Rattle.mt_dviops.specs.Result.{places_in}
use Rattle.mt_dviops.specs.inner.Shown.{has_selected}

-- what is kept is this page of a file of these bytes, with its body in these bodies
pub record KeepsPage (fonts : SetValue) (bytes bodies : List ℕ) (kept : CopiedPage) (page : SourcePage) : Type 0 where
  pub counts : bytes_from kept.counts 40 bytes ≡ page.counts
  pub body : bytes_from kept.start (kept.end - kept.start) bodies ≡ page.body
  pub selected : (n : ℕ) → has_selected kept.fonts n ≡ list_any (λ (m : ℕ). m == n) page.selected
  pub depth : kept.depth ≡ page.depth
  pub places : kept.places ≡ length page.page.places
  pub tallest : kept.tallest ≡ greatest_edge (lower_edge fonts) 0 (places_in page.page)
  pub widest : kept.widest ≡ greatest_edge (right_edge fonts) 0 (places_in page.page)

-- and its body is shorter than 2^32
pub record HoldsPage (fonts : SetValue) (bytes bodies : List ℕ) (kept : CopiedPage) (page : SourcePage) : Type 0 where
  pub short : length page.body < 4294967296
  pub keeps : KeepsPage fonts bytes bodies kept page

abbrev pub HoldsPages : SetValue → List ℕ → List ℕ → List CopiedPage → List SourcePage → Type 0
HoldsPages fonts bytes bodies [] [] = ⊤
HoldsPages fonts bytes bodies [] (page ∷ pages) = ⊥
HoldsPages fonts bytes bodies (kept ∷ more) [] = ⊥
HoldsPages fonts bytes bodies (kept ∷ more) (page ∷ pages) =
    HoldsPage fonts bytes bodies kept page × HoldsPages fonts bytes bodies more pages

pub record Holds (fonts : SetValue) (copies : Copies) (source : SourceFile) : Type 0 where
  pub mag : source.mag ≡ copies.mag
  pub pages : HoldsPages fonts copies.bytes.now copies.bodies.items copies.pages.items source.pages
