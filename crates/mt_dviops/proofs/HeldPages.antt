-- The page at an index, of those that are kept of a file (`held_at`).
use Rattle.std.proofs.Common.{◌≡◌, ℕ, zero, suc, ◌<◌, List, [], ◌∷◌, length, get_or, refl, arith}
use Rattle.mt_family.specs.SetValue.{SetValue}
use Rattle.mt_dviops.specs.declared.copies.CopiedPage.{CopiedPage}
use Rattle.mt_dviops.specs.Source.{SourcePage}
use Rattle.mt_dviops.specs.inner.Copies.{HoldsPage, HoldsPages}

pub held_at : (fonts : SetValue) (bytes bodies : List ℕ) (kept : List CopiedPage) (pages : List SourcePage) (k : ℕ) (d : CopiedPage) (page : SourcePage) → HoldsPages fonts bytes bodies kept pages → k < length kept
    → HoldsPage fonts bytes bodies (get_or kept k d) (get_or pages k page)
held_at fonts bytes bodies [] pages k d page holds lt = absurd (omega arith)
held_at fonts bytes bodies (x ∷ kept) [] k d page holds lt = absurd holds
held_at fonts bytes bodies (x ∷ kept) (p ∷ pages) zero d page (is, holds) lt = is
held_at fonts bytes bodies (x ∷ kept) (p ∷ pages) (suc k) d page (is, holds) lt = held_at fonts bytes bodies kept pages k d page holds (omega arith)

pub held_long : (fonts : SetValue) (bytes bodies : List ℕ) (kept : List CopiedPage) (pages : List SourcePage) → HoldsPages fonts bytes bodies kept pages → length kept ≡ length pages
held_long fonts bytes bodies [] [] holds = refl
held_long fonts bytes bodies [] (p ∷ pages) holds = absurd holds
held_long fonts bytes bodies (x ∷ kept) [] holds = absurd holds
held_long fonts bytes bodies (x ∷ kept) (p ∷ pages) (is, holds) = omega (arith, held_long fonts bytes bodies kept pages holds)
