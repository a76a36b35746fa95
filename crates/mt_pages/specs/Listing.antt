-- Pages as a text (`listing`), and what was set, counted (`summary`).
use Rattle.std.specs.Prelude.{ℕ, ◌+◌, List, [], ◌∷◌, ◌++◌, length, count_by, flat_map, Bool, true, false, codes, decimal}
use Rattle.std.specs.List.{concat}
use Rattle.std.specs.Fmt.{signed_decimal}
use Rattle.mt_box.specs.declared.place.Place.{Place}
use Rattle.mt_box.specs.declared.place.Place.TheVariants.{Glyph, Rule}
use Rattle.mt_dvi.specs.WrittenPlaces.{all_places}

-- a word and a number
abbrev pub number_line : List ℕ → ℕ → List ℕ
number_line word n = concat (word ∷ codes " " ∷ decimal n ∷ codes "\n" ∷ [])

-- g FONT CODE H V, or r H V HEIGHT WIDTH
abbrev pub place_line : Place → List ℕ
place_line (Glyph font code h v) =
    concat (codes "g " ∷ decimal font ∷ codes " " ∷ decimal code ∷ codes " " ∷ signed_decimal h ∷ codes " " ∷ signed_decimal v ∷ codes "\n" ∷ [])
place_line (Rule h v height width) =
    concat (codes "r " ∷ signed_decimal h ∷ codes " " ∷ signed_decimal v ∷ codes " " ∷ signed_decimal height ∷ codes " " ∷ signed_decimal width ∷ codes "\n" ∷ [])

-- the page of this number, and a line for each of its places
abbrev pub page_text : ℕ → List Place → List ℕ
page_text number page = number_line (codes "page") number ++ flat_map place_line page

-- the pages, where the first has number n
abbrev pub pages_text : ℕ → List (List Place) → List ℕ
pages_text n [] = []
pages_text n (page ∷ pages) = page_text n page ++ pages_text (n + 1) pages

-- the pages, counted from 1, and their number
unfoldable pub listing : List (List Place) → List ℕ
listing pages = pages_text 1 pages ++ number_line (codes "pages") (length pages)

abbrev pub is_glyph_place : Place → Bool
is_glyph_place (Glyph font code h v) = true
is_glyph_place (Rule h v height width) = false

abbrev pub is_rule_place : Place → Bool
is_rule_place (Glyph font code h v) = false
is_rule_place (Rule h v height width) = true

-- so many formulas gave these pages
unfoldable pub summary : ℕ → List (List Place) → List ℕ
summary formulas pages =
    concat (number_line (codes "formulas") formulas
    ∷ number_line (codes "pages") (length pages)
    ∷ number_line (codes "glyphs") (count_by is_glyph_place (all_places pages))
    ∷ number_line (codes "rules") (count_by is_rule_place (all_places pages)) ∷ [])
