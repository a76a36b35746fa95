-- How long a file is (`file_long`), from the lengths of its definitions and its pages.
use Rattle.std.proofs.Common.{◌≡◌, ℕ, ◌+◌, List, [], ◌∷◌, ◌++◌, length, refl, ◌∙◌, ap, arith, length-append}
use Rattle.std.specs.Prelude.{ℤ, pos, negsuc, ⊤}
use Rattle.mt_dvi.specs.Opcodes.{eop}
use Rattle.mt_dviops.specs.declared.totals.Totals.{Totals}
use Rattle.mt_dviops.specs.Source.{SourcePage}
use Rattle.mt_dvi.specs.Encoded.{pre_bytes, scale_bytes, signed_bytes, two_bytes}
use Rattle.mt_dviops.specs.Result.{last_bop, padding_bytes, page_bytes, pages_bytes, post_of, post_post_bytes}
use Rattle.mt_dvi.specs.Codes.{four_bytes}
use Rattle.mt_dviops.specs.inner.Shown.{file_length, file_with_totals, front_of, head_of, padded, pages_length}

-- each page has 40 bytes of counts
abbrev pub AreFull : List SourcePage → Type 0
AreFull [] = ⊤
AreFull (page ∷ pages) = (length page.counts ≡ 40) × AreFull pages

four_long : (x : ℤ) → length (signed_bytes x) ≡ 4
four_long (pos n) = refl
four_long (negsuc n) = refl

page_long : (last : ℤ) (page : SourcePage) → length page.counts ≡ 40 → length (page_bytes last page) ≡ length page.body + 46
page_long last page full =
    omega (arith, full, four_long last, length-append (page.counts ++ signed_bytes last ++ page.body) (eop ∷ []), length-append (page.counts ++ signed_bytes last) page.body, length-append page.counts (signed_bytes last))

pub pages_long : (at : ℕ) (last : ℤ) (pages : List SourcePage) → AreFull pages → length (pages_bytes at last pages) ≡ pages_length pages
pages_long at last [] full = refl
pages_long at last (page ∷ pages) (one, full) =
    let first = page_long last page one in
    let more = pages_long (at + length (page_bytes last page)) (pos at) pages full in
    omega (arith, first, more, length-append (page_bytes last page) (pages_bytes (at + length (page_bytes last page)) (pos at) pages))

scale_long : (mag : ℤ) → length (scale_bytes mag) ≡ 12
scale_long mag = omega (arith, four_long mag, length-append (four_bytes 25400000 ++ four_bytes 473628672) (signed_bytes mag))

pre_long : (mag : ℤ) → length (pre_bytes mag) ≡ 15
pre_long mag = omega (arith, scale_long mag, length-append (scale_bytes mag) (0 ∷ []))

post_long : (mag last : ℤ) (tallest widest depth count : ℕ) → length (post_of mag last tallest widest depth count) ≡ 29
post_long mag last tallest widest depth count =
    let s = signed_bytes last in
    let scale = scale_bytes mag in
    let t = four_bytes tallest in
    let w = four_bytes widest in
    let d = two_bytes depth in
    let c = two_bytes count in
    omega (arith, four_long last, scale_long mag, length-append (s ++ scale ++ t ++ w ++ d) c, length-append (s ++ scale ++ t ++ w) d, length-append (s ++ scale ++ t) w, length-append (s ++ scale) t, length-append s scale)

pub head_long : (mag : ℤ) (definitions : List ℕ) → length (head_of mag definitions) ≡ 15 + length definitions
head_long mag definitions = omega (arith, pre_long mag, length-append (pre_bytes mag) definitions)

pub front_long : (mag : ℤ) (definitions : List ℕ) (pages : List SourcePage) → AreFull pages → length (front_of mag definitions pages) ≡ 15 + length definitions + pages_length pages
front_long mag definitions pages full =
    omega (arith, head_long mag definitions, pages_long (length (head_of mag definitions)) (negsuc 0) pages full, length-append (head_of mag definitions) (pages_bytes (length (head_of mag definitions)) (negsuc 0) pages))

pub file_long : (mag : ℤ) (definitions : List ℕ) (totals : Totals) (pages : List SourcePage) → AreFull pages → length (file_with_totals mag definitions totals pages) ≡ file_length (length definitions) (pages_length pages)
unfolding file_with_totals
file_long mag definitions totals pages full =
    let front = front_of mag definitions pages in
    let last = last_bop (length (head_of mag definitions)) (negsuc 0) pages in
    let post = post_of mag last totals.tallest totals.widest totals.depth (length pages) in
    let foot = post_post_bytes (length front) in
    let whole = front ++ post ++ definitions ++ foot in
    let count : length whole ≡ 50 + length definitions + length definitions + pages_length pages =
    omega (arith, front_long mag definitions pages full, post_long mag last totals.tallest totals.widest totals.depth (length pages), length-append (front ++ post ++ definitions) foot, length-append (front ++ post) definitions, length-append front post) in
    length-append whole (padding_bytes (length whole)) ∙ ap padded count
