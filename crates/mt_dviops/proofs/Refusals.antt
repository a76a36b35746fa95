-- When pages are refused, and when there is a file of them (`pages_refused`, `places_refused`, `length_refused`,
-- `pages_taken`).
use Rattle.std.proofs.Common.{◌≡◌, ◌<◌, ◌≤◌, List, length, refl, arith}
use Rattle.std.specs.Prelude.{ℤ, true, false, nat_lt, Ok, Err}
use Rattle.std.proofs.lemmas.Bool.Decides.{nat_tests}
use Rattle.mt_family.specs.SetValue.{SetValue}
use Rattle.mt_dvi.specs.Limits.{max_dvi, max_dvi_pages, max_places}
use Rattle.mt_dviops.specs.Source.{SourcePage}
use Rattle.mt_dviops.specs.Result.{copied_bytes, places_on}
use Rattle.mt_dviops.specs.Copied.{TooManyPages, TooManyPlaces, TooLong, copied_pages}

pub pages_refused : (fonts : SetValue) (mag : ℤ) (pages : List SourcePage) → max_dvi_pages < length pages → copied_pages fonts mag pages ≡ Err (TooManyPages (length pages))
pages_refused fonts mag pages many =
    let a : nat_lt max_dvi_pages (length pages) ≡ true = grind (arith, nat_tests) in
    rw a refl

pub places_refused : (fonts : SetValue) (mag : ℤ) (pages : List SourcePage) → length pages ≤ max_dvi_pages → max_places < length (places_on pages)
    → copied_pages fonts mag pages ≡ Err (TooManyPlaces (length (places_on pages)))
places_refused fonts mag pages few many =
    let a : nat_lt max_dvi_pages (length pages) ≡ false = grind (arith, nat_tests) in
    let b : nat_lt max_places (length (places_on pages)) ≡ true = grind (arith, nat_tests) in
    rw (a, b) refl

pub length_refused : (fonts : SetValue) (mag : ℤ) (pages : List SourcePage) → length pages ≤ max_dvi_pages → length (places_on pages) ≤ max_places → max_dvi < length (copied_bytes fonts mag pages)
    → copied_pages fonts mag pages ≡ Err (TooLong (length (copied_bytes fonts mag pages)))
length_refused fonts mag pages few sparse long =
    let a : nat_lt max_dvi_pages (length pages) ≡ false = grind (arith, nat_tests) in
    let b : nat_lt max_places (length (places_on pages)) ≡ false = grind (arith, nat_tests) in
    let d : nat_lt max_dvi (length (copied_bytes fonts mag pages)) ≡ true = grind (arith, nat_tests) in
    rw (a, b, d) refl

pub pages_taken : (fonts : SetValue) (mag : ℤ) (pages : List SourcePage) → length pages ≤ max_dvi_pages → length (places_on pages) ≤ max_places → length (copied_bytes fonts mag pages) ≤ max_dvi
    → copied_pages fonts mag pages ≡ Ok (copied_bytes fonts mag pages)
pages_taken fonts mag pages few sparse short =
    let a : nat_lt max_dvi_pages (length pages) ≡ false = grind (arith, nat_tests) in
    let b : nat_lt max_places (length (places_on pages)) ≡ false = grind (arith, nat_tests) in
    let d : nat_lt max_dvi (length (copied_bytes fonts mag pages)) ≡ false = grind (arith, nat_tests) in
    rw (a, b, d) refl
