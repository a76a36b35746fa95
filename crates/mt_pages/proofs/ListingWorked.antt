-- Small pages as texts.
use Rattle.std.proofs.Common.{◌≡◌, ℕ, pos, negsuc, List, [], ◌∷◌, map, codes, refl}
use Rattle.mt_pages.proofs.Common.{Place, Glyph, Rule, listing, summary}
use Rattle.std.specs.Fmt.{digits}

-- a glyph and a rule, no place, a glyph
abbrev pages : List (List Place)
pages =
    (Glyph 3 97 (pos 0) (pos 327680) ∷ Rule (pos 78643) (negsuc 4) (pos 3) (pos 229376) ∷ [])
    ∷ []
    ∷ (Glyph 10 255 (negsuc 1073741822) (pos 7) ∷ [])
    ∷ []

-- pages as texts
abbrev cases : List (List ℕ × List ℕ)
cases =
    (listing pages, codes "page 1\ng 3 97 0 327680\nr 78643 -5 3 229376\npage 2\npage 3\ng 10 255 -1073741823 7\npages 3\n")
    ∷ (listing [], codes "pages 0\n")
    ∷ (summary 21 pages, codes "formulas 21\npages 3\nglyphs 2\nrules 1\n")
    ∷ (summary 0 [], codes "formulas 0\npages 0\nglyphs 0\nrules 0\n")
    ∷ []

cases_agree : map (λ (c : List ℕ × List ℕ). c.0) cases ≡ map (λ (c : List ℕ × List ℕ). c.1) cases
unfolding listing summary digits
cases_agree = refl
