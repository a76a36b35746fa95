-- The bytes of a file of chosen pages (`copied_bytes`).
use Rattle.std.specs.Prelude.{ℕ, ◌+◌, ◌-◌, ◌%◌, ℤ, pos, negsuc, List, [], ◌∷◌, ◌++◌, length, map, max, replicate, Bool, ◌==◌}
use Rattle.std.specs.List.{filter, list_any, range_with_len}
use Rattle.mt_family.specs.SetValue.{SetValue}
use Rattle.mt_box.specs.declared.place.Place.{Place}
use Rattle.mt_dvi.specs.Opcodes.{bop, eop, post, post_post}
use Rattle.mt_dvi.specs.Codes.{four_bytes}
use Rattle.mt_dvi.specs.File.{Page}
use Rattle.mt_dvi.specs.Machine.{WrittenPlace}
use Rattle.mt_dvi.specs.Fonts.{definition_of}
use Rattle.mt_dvi.specs.Edges.{lower_edge, right_edge, greatest_edge}
use Rattle.mt_dvi.specs.Encoded.{definition_bytes, pre_bytes, scale_bytes, signed_bytes, two_bytes}
use Rattle.mt_dvi.specs.WrittenPlaces.{all_places}
use Rattle.mt_dviops.specs.Source.{SourcePage}

abbrev pub is_selected : List SourcePage → ℕ → Bool
is_selected pages n =
    list_any (λ (page : SourcePage). list_any (λ (m : ℕ). m == n) page.selected) pages

-- the fonts that some page selects, in the order of the set
abbrev pub selected_fonts : SetValue → List SourcePage → List ℕ
selected_fonts fonts pages = filter (is_selected pages) (range_with_len 0 (length fonts.fonts))

abbrev pub concat : List (List ℕ) → List ℕ
concat [] = []
concat (bytes ∷ more) = bytes ++ concat more

abbrev pub definitions_bytes : SetValue → List ℕ → List ℕ
definitions_bytes fonts numbers = concat (map (λ (n : ℕ). definition_bytes (definition_of fonts n)) numbers)

-- a page, where the bop before is at this offset
abbrev pub page_bytes : ℤ → SourcePage → List ℕ
page_bytes last page = bop ∷ page.counts ++ signed_bytes last ++ page.body ++ eop ∷ []

-- pages from an offset on
abbrev pub pages_bytes : ℕ → ℤ → List SourcePage → List ℕ
pages_bytes at last [] = []
pages_bytes at last (page ∷ pages) =
    page_bytes last page ++ pages_bytes (at + length (page_bytes last page)) (pos at) pages

-- the offset of the last bop
abbrev pub last_bop : ℕ → ℤ → List SourcePage → ℤ
last_bop at last [] = last
last_bop at last (page ∷ pages) = last_bop (at + length (page_bytes last page)) (pos at) pages

abbrev pub places_in : Page → List Place
places_in page = map (λ (written : WrittenPlace). written.place) page.places

-- the places of these pages
abbrev pub places_on : List SourcePage → List Place
places_on pages = all_places (map (λ (page : SourcePage). places_in page.page) pages)

abbrev pub greatest_page_depth : ℕ → List SourcePage → ℕ
greatest_page_depth most [] = most
greatest_page_depth most (page ∷ pages) = greatest_page_depth (max most page.depth) pages

-- post: the offset of the last bop, the scale, the greatest extents, the depth and the number of the pages
abbrev pub post_of : ℤ → ℤ → ℕ → ℕ → ℕ → ℕ → List ℕ
post_of mag last tallest widest depth count =
    post ∷ signed_bytes last ++ scale_bytes mag ++ four_bytes tallest ++ four_bytes widest ++ two_bytes depth
    ++ two_bytes count

abbrev pub post_bytes : SetValue → ℤ → ℤ → List SourcePage → List ℕ
post_bytes fonts mag last pages =
    post_of mag last (greatest_edge (lower_edge fonts) 0 (places_on pages))
    (greatest_edge (right_edge fonts) 0 (places_on pages)) (greatest_page_depth 0 pages) (length pages)

-- post_post, where post is at this offset
abbrev pub post_post_bytes : ℕ → List ℕ
post_post_bytes at = post_post ∷ four_bytes at ++ 2 ∷ []

-- four bytes 223, and the least number more that makes the length a multiple of four, at the end of so many bytes
abbrev pub padding_bytes : ℕ → List ℕ
padding_bytes count = replicate (4 + (4 - count % 4) % 4) 223

abbrev pub with_tail : List ℕ → List ℕ
with_tail bytes = bytes ++ padding_bytes (length bytes)

-- what is before post
abbrev pub head_bytes : SetValue → ℤ → List SourcePage → List ℕ
head_bytes fonts mag pages = pre_bytes mag ++ definitions_bytes fonts (selected_fonts fonts pages)

abbrev pub before_post : SetValue → ℤ → List SourcePage → List ℕ
before_post fonts mag pages =
    head_bytes fonts mag pages ++ pages_bytes (length (head_bytes fonts mag pages)) (negsuc 0) pages

-- the whole file; without pages no font is defined, and the last bop is - 1
unfoldable pub copied_bytes : SetValue → ℤ → List SourcePage → List ℕ
copied_bytes fonts mag pages =
    with_tail
    (before_post fonts mag pages
    ++ post_bytes fonts mag (last_bop (length (head_bytes fonts mag pages)) (negsuc 0) pages) pages
    ++ definitions_bytes fonts (selected_fonts fonts pages)
    ++ post_post_bytes (length (before_post fonts mag pages)))
