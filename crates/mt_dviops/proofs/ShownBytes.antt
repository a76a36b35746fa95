-- What is kept of pages makes the bytes that the pages make (`file_shown`).
use Rattle.std.proofs.Common.{◌≡◌, ℕ, zero, suc, ◌+◌, ◌<◌, List, [], ◌∷◌, ◌++◌, length, refl, ◌∙◌, ap, arith}
use Rattle.std.specs.Prelude.{ℤ, pos, negsuc, Bool, true, false, All}
use Rattle.std.specs.List.{filter, range_with_len}
use Rattle.mt_family.specs.SetValue.{SetValue}
use Rattle.mt_dvi.specs.Opcodes.{bop, eop}
use Rattle.mt_dviops.specs.declared.page.PageCopy.{PageCopy}
use Rattle.mt_dviops.specs.declared.totals.Totals.{Totals}
use Rattle.mt_dviops.specs.Source.{SourcePage}
use Rattle.mt_dvi.specs.Encoded.{signed_bytes}
use Rattle.mt_dviops.specs.Result.{copied_bytes, definitions_bytes, is_selected, last_bop, page_bytes, pages_bytes, selected_fonts}
use Rattle.mt_dviops.specs.inner.Shown.{AreShown, IsTotal, Shows, all_told, file_with_totals, has_selected, pages_length, told}
use Rattle.mt_dviops.proofs.FileLengths.{AreFull}

page_told : (fonts : SetValue) (last : ℤ) (copy : PageCopy) (page : SourcePage) → Shows fonts copy page → page_bytes last (told copy) ≡ page_bytes last page
page_told fonts last copy page shows =
    ap (λ (l : List ℕ). bop ∷ l ++ signed_bytes last ++ copy.body.now ++ eop ∷ []) shows.counts
    ∙ ap (λ (l : List ℕ). bop ∷ page.counts ++ signed_bytes last ++ l ++ eop ∷ []) shows.body

pub pages_told : (fonts : SetValue) (at : ℕ) (last : ℤ) (copies : List PageCopy) (pages : List SourcePage) → AreShown fonts copies pages → pages_bytes at last (all_told copies) ≡ pages_bytes at last pages
pages_told fonts at last [] [] are = refl
pages_told fonts at last [] (p ∷ pages) are = absurd are
pages_told fonts at last (c ∷ copies) [] are = absurd are
pages_told fonts at last (c ∷ copies) (p ∷ pages) (is, are) =
    let one = page_told fonts last c p is in
    ap (λ (l : List ℕ). l ++ pages_bytes (at + length (page_bytes last (told c))) (pos at) (all_told copies)) one
    ∙ ap (λ (l : List ℕ). page_bytes last p ++ pages_bytes (at + length l) (pos at) (all_told copies)) one
    ∙ ap (λ (l : List ℕ). page_bytes last p ++ l) (pages_told fonts (at + length (page_bytes last p)) (pos at) copies pages are)

last_told : (fonts : SetValue) (at : ℕ) (last : ℤ) (copies : List PageCopy) (pages : List SourcePage) → AreShown fonts copies pages → last_bop at last (all_told copies) ≡ last_bop at last pages
last_told fonts at last [] [] are = refl
last_told fonts at last [] (p ∷ pages) are = absurd are
last_told fonts at last (c ∷ copies) [] are = absurd are
last_told fonts at last (c ∷ copies) (p ∷ pages) (is, are) =
    ap (λ (l : List ℕ). last_bop (at + length l) (pos at) (all_told copies)) (page_told fonts last c p is)
    ∙ last_told fonts (at + length (page_bytes last p)) (pos at) copies pages are

count_told : (fonts : SetValue) (copies : List PageCopy) (pages : List SourcePage) → AreShown fonts copies pages → length (all_told copies) ≡ length pages
count_told fonts [] [] are = refl
count_told fonts [] (p ∷ pages) are = absurd are
count_told fonts (c ∷ copies) [] are = absurd are
count_told fonts (c ∷ copies) (p ∷ pages) (is, are) = omega (arith, count_told fonts copies pages are)

pub length_told : (fonts : SetValue) (copies : List PageCopy) (pages : List SourcePage) → AreShown fonts copies pages → pages_length (all_told copies) ≡ pages_length pages
length_told fonts [] [] are = refl
length_told fonts [] (p ∷ pages) are = absurd are
length_told fonts (c ∷ copies) [] are = absurd are
length_told fonts (c ∷ copies) (p ∷ pages) (is, are) = omega (arith, length_told fonts copies pages are, ap length is.body)

pub full_told : (copies : List PageCopy) → All (λ (c : PageCopy). length c.counts.now ≡ 40) copies → AreFull (all_told copies)
full_told [] full = tt
full_told (c ∷ copies) full = (full 0 c (omega arith), full_told copies (λ k d lt. full (suc k) d (omega arith)))

kept : (b : Bool) (p q : ℕ → Bool) (n : ℕ) (numbers : List ℕ) → p n ≡ q n → q n ≡ b → filter p numbers ≡ filter q numbers → filter p (n ∷ numbers) ≡ filter q (n ∷ numbers)
kept true p q n numbers e is more = rw (e, is) (ap (λ (l : List ℕ). n ∷ l) more)
kept false p q n numbers e is more = rw (e, is) more

filter_same : (p q : ℕ → Bool) (numbers : List ℕ) → ((n : ℕ) → p n ≡ q n) → filter p numbers ≡ filter q numbers
filter_same p q [] same = refl
filter_same p q (n ∷ numbers) same = kept (q n) p q n numbers (same n) refl (filter_same p q numbers same)

pub definitions_shown : (fonts : SetValue) (totals : Totals) (pages : List SourcePage) → IsTotal fonts totals pages
    → definitions_bytes fonts (filter (has_selected totals.fonts) (range_with_len 0 (length fonts.fonts))) ≡ definitions_bytes fonts (selected_fonts fonts pages)
definitions_shown fonts totals pages is =
    ap (definitions_bytes fonts) (filter_same (has_selected totals.fonts) (is_selected pages) (range_with_len 0 (length fonts.fonts)) is.selected)

pub file_shown : (fonts : SetValue) (mag : ℤ) (definitions : List ℕ) (totals : Totals) (copies : List PageCopy) (pages : List SourcePage) → AreShown fonts copies pages → IsTotal fonts totals pages
    → definitions ≡ definitions_bytes fonts (selected_fonts fonts pages) → file_with_totals mag definitions totals (all_told copies) ≡ copied_bytes fonts mag pages
unfolding copied_bytes file_with_totals
file_shown fonts mag definitions totals copies pages are is defined =
    rw (defined, is.tallest, is.widest, is.depth, count_told fonts copies pages are)
    (rw (pages_told fonts _ (negsuc 0) copies pages are, last_told fonts _ (negsuc 0) copies pages are) refl)

pub count_same : (copies : List PageCopy) → length (all_told copies) ≡ length copies
count_same [] = refl
count_same (c ∷ copies) = omega (arith, count_same copies)

pub all_full : (fonts : SetValue) (copies : List PageCopy) (pages : List SourcePage) → AreShown fonts copies pages → All (λ (c : PageCopy). length c.counts.now ≡ 40) copies
all_full fonts [] pages are k d lt = absurd (omega arith)
all_full fonts (c ∷ copies) [] are k d lt = absurd are
all_full fonts (c ∷ copies) (p ∷ pages) (is, are) zero d lt = is.full
all_full fonts (c ∷ copies) (p ∷ pages) (is, are) (suc k) d lt = all_full fonts copies pages are k d (omega arith)

pub all_short : (fonts : SetValue) (copies : List PageCopy) (pages : List SourcePage) → AreShown fonts copies pages → All (λ (c : PageCopy). length c.body.now < 4294967296) copies
all_short fonts [] pages are k d lt = absurd (omega arith)
all_short fonts (c ∷ copies) [] are k d lt = absurd are
all_short fonts (c ∷ copies) (p ∷ pages) (is, are) zero d lt = is.short
all_short fonts (c ∷ copies) (p ∷ pages) (is, are) (suc k) d lt = all_short fonts copies pages are k d (omega arith)

pub shown_more : (fonts : SetValue) (copies : List PageCopy) (pages : List SourcePage) (copy : PageCopy) (page : SourcePage) → AreShown fonts copies pages → Shows fonts copy page → AreShown fonts (copies ++ copy ∷ []) (pages ++ page ∷ [])
shown_more fonts [] [] copy page are is = (is, tt)
shown_more fonts [] (p ∷ pages) copy page are is = absurd are
shown_more fonts (c ∷ copies) [] copy page are is = absurd are
shown_more fonts (c ∷ copies) (p ∷ pages) copy page (one, are) is = (one, shown_more fonts copies pages copy page are is)
