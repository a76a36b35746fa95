-- What comes of pages that are kept: a file, or why there is none (`too_many_places`, `too_long`, `taken`).
use Rattle.std.proofs.Common.{◌≡◌, ℕ, ◌<◌, ◌≤◌, List, length, sym, ◌∙◌, ap, arith}
use Rattle.std.specs.Prelude.{ℤ, Ok, Err, All}
use Rattle.std.specs.List.{filter, range_with_len}
use Rattle.mt_family.specs.SetValue.{SetValue}
use Rattle.mt_dvi.specs.Limits.{max_dvi, max_dvi_pages, max_places}
use Rattle.mt_dviops.specs.declared.page.PageCopy.{PageCopy}
use Rattle.mt_dviops.specs.declared.totals.Totals.{Totals}
use Rattle.mt_dviops.specs.Source.{SourcePage}
use Rattle.mt_dviops.specs.Result.{copied_bytes, definitions_bytes}
use Rattle.mt_dviops.specs.Copied.{CopyAnswer, TooLong, TooManyPlaces, copied_pages}
use Rattle.mt_dviops.specs.inner.Shown.{AreShown, IsTotal, all_told, file_length, file_with_totals, has_selected, pages_length}
use Rattle.mt_dviops.proofs.FileLengths.{file_long}
use Rattle.mt_dviops.proofs.PageTotals.{shown_long}
use Rattle.mt_dviops.proofs.Refusals.{length_refused, pages_taken, places_refused}
use Rattle.mt_dviops.proofs.ShownBytes.{definitions_shown, file_shown, full_told}

pub length_told_by : (mag : ℤ) (definitions : List ℕ) (totals : Totals) (copies : List PageCopy) → All (λ (c : PageCopy). length c.counts.now ≡ 40) copies → totals.bytes ≡ pages_length (all_told copies)
    → length (file_with_totals mag definitions totals (all_told copies)) ≡ file_length (length definitions) totals.bytes
length_told_by mag definitions totals copies full bytes =
    file_long mag definitions totals (all_told copies) (full_told copies full) ∙ ap (file_length (length definitions)) (sym bytes)

pub too_many_places : (fonts : SetValue) (mag : ℤ) (totals : Totals) (copies : List PageCopy) (pages : List SourcePage) → length copies ≤ max_dvi_pages → AreShown fonts copies pages → IsTotal fonts totals pages
    → max_places < totals.places → copied_pages fonts mag pages ≡ Err (TooManyPlaces totals.places)
too_many_places fonts mag totals copies pages few are is many =
    let n = shown_long fonts copies pages are in
    places_refused fonts mag pages (omega (arith, n, few)) (omega (arith, is.places, many)) ∙ ap (λ (k : ℕ). let r : CopyAnswer (List ℕ) = Err (TooManyPlaces k) in r) (sym is.places)

-- the bytes of the file
pub whole : (fonts : SetValue) (mag : ℤ) (definitions : List ℕ) (totals : Totals) (copies : List PageCopy) (pages : List SourcePage) → AreShown fonts copies pages → IsTotal fonts totals pages
    → definitions ≡ definitions_bytes fonts (filter (has_selected totals.fonts) (range_with_len 0 (length fonts.fonts))) → file_with_totals mag definitions totals (all_told copies) ≡ copied_bytes fonts mag pages
whole fonts mag definitions totals copies pages are is defined = file_shown fonts mag definitions totals copies pages are is (defined ∙ definitions_shown fonts totals pages is)

pub too_long : (fonts : SetValue) (mag : ℤ) (definitions : List ℕ) (totals : Totals) (copies : List PageCopy) (pages : List SourcePage) (long : ℕ) → length copies ≤ max_dvi_pages → AreShown fonts copies pages → IsTotal fonts totals pages
    → definitions ≡ definitions_bytes fonts (filter (has_selected totals.fonts) (range_with_len 0 (length fonts.fonts))) → totals.places ≤ max_places
    → length (file_with_totals mag definitions totals (all_told copies)) ≡ long → max_dvi < long → copied_pages fonts mag pages ≡ Err (TooLong long)
too_long fonts mag definitions totals copies pages long few are is defined sparse e many =
    let n = shown_long fonts copies pages are in
    let w = whole fonts mag definitions totals copies pages are is defined in
    let same : length (copied_bytes fonts mag pages) ≡ long = ap length (sym w) ∙ e in
    length_refused fonts mag pages (omega (arith, n, few)) (omega (arith, is.places, sparse)) (omega (arith, same, many)) ∙ ap (λ (k : ℕ). let r : CopyAnswer (List ℕ) = Err (TooLong k) in r) same

pub taken : (fonts : SetValue) (mag : ℤ) (definitions : List ℕ) (totals : Totals) (copies : List PageCopy) (pages : List SourcePage) (long : ℕ) (bytes : List ℕ) → length copies ≤ max_dvi_pages → AreShown fonts copies pages → IsTotal fonts totals pages
    → definitions ≡ definitions_bytes fonts (filter (has_selected totals.fonts) (range_with_len 0 (length fonts.fonts))) → totals.places ≤ max_places
    → length (file_with_totals mag definitions totals (all_told copies)) ≡ long → long ≤ max_dvi → bytes ≡ file_with_totals mag definitions totals (all_told copies) → copied_pages fonts mag pages ≡ Ok bytes
taken fonts mag definitions totals copies pages long bytes few are is defined sparse e short made =
    let n = shown_long fonts copies pages are in
    let w = whole fonts mag definitions totals copies pages are is defined in
    let same : length (copied_bytes fonts mag pages) ≡ long = ap length (sym w) ∙ e in
    pages_taken fonts mag pages (omega (arith, n, few)) (omega (arith, is.places, sparse)) (omega (arith, same, short)) ∙ ap (λ (l : List ℕ). let r : CopyAnswer (List ℕ) = Ok l in r) (sym (made ∙ w))
