-- The totals of pages, one page after another (`total_none`, `total_more`, `total_all`).
use Rattle.std.proofs.Common.{◌≡◌, ℕ, zero, suc, ◌+◌, ◌<◌, ◌≤◌, List, [], ◌∷◌, ◌++◌, length, take, get_or, refl, sym, ◌∙◌, ap, subst, arith, append_assoc, length-append}
use Rattle.std.specs.Prelude.{ℤ, max, Bool, true, false, ◌||◌, ◌==◌, map}
use Rattle.std.specs.Int.{bit_at}
use Rattle.std.specs.List.{list_any}
use Rattle.std.proofs.lemmas.Nat.Bits.{bit_at-zero}
use Rattle.std.proofs.lemmas.List.{append-nil, take_more}
use Rattle.mt_family.specs.SetValue.{SetValue}
use Rattle.mt_box.specs.declared.place.Place.{Place}
use Rattle.mt_dvi.specs.Machine.{WrittenPlace}
use Rattle.mt_dvi.specs.Edges.{greatest_edge, lower_edge, or_zero, right_edge}
use Rattle.mt_dviops.specs.declared.page.PageCopy.{PageCopy}
use Rattle.mt_dviops.specs.declared.totals.Totals.{Totals}
use Rattle.mt_dviops.specs.Source.{SourcePage, empty_source}
use Rattle.mt_dviops.specs.Result.{greatest_page_depth, is_selected, places_in, places_on}
use Rattle.mt_dviops.specs.inner.Shown.{AreShown, IncludesPage, IsTotal, Shows, all_told, pages_length, told}

length_more : (pages : List SourcePage) (page : SourcePage) → pages_length (pages ++ page ∷ []) ≡ pages_length pages + (length page.body + 46)
length_more [] page = omega arith
length_more (p ∷ pages) page = omega (arith, length_more pages page)

places_more : (pages : List SourcePage) (page : SourcePage) → places_on (pages ++ page ∷ []) ≡ places_on pages ++ places_in page.page
places_more [] page = append-nil (places_in page.page)
places_more (p ∷ pages) page = ap (λ (l : List Place). places_in p.page ++ l) (places_more pages page) ∙ sym (append_assoc (places_in p.page) (places_on pages) (places_in page.page))

map_long : (places : List WrittenPlace) → length (map (λ (w : WrittenPlace). w.place) places) ≡ length places
map_long [] = refl
map_long (w ∷ places) = omega (arith, map_long places)

depth_more : (most : ℕ) (pages : List SourcePage) (page : SourcePage) → greatest_page_depth most (pages ++ page ∷ []) ≡ max (greatest_page_depth most pages) page.depth
depth_more most [] page = refl
depth_more most (p ∷ pages) page = depth_more (max most p.depth) pages page

edge_append : (edge : Place → ℤ) (most : ℕ) (xs ys : List Place) → greatest_edge edge most (xs ++ ys) ≡ greatest_edge edge (greatest_edge edge most xs) ys
edge_append edge most [] ys = refl
edge_append edge most (x ∷ xs) ys = edge_append edge (max most (or_zero (edge x))) xs ys

edge_max : (edge : Place → ℤ) (most : ℕ) (xs : List Place) → greatest_edge edge most xs ≡ max most (greatest_edge edge 0 xs)
edge_max edge most [] = omega arith
edge_max edge most (x ∷ xs) =
    let a = edge_max edge (max most (or_zero (edge x))) xs in
    let b = edge_max edge (max 0 (or_zero (edge x))) xs in
    omega (arith, a, b)

edge_more : (edge : Place → ℤ) (pages : List SourcePage) (page : SourcePage) → greatest_edge edge 0 (places_on (pages ++ page ∷ [])) ≡ max (greatest_edge edge 0 (places_on pages)) (greatest_edge edge 0 (places_in page.page))
edge_more edge pages page =
    ap (greatest_edge edge 0) (places_more pages page) ∙ edge_append edge 0 (places_on pages) (places_in page.page)
    ∙ edge_max edge (greatest_edge edge 0 (places_on pages)) (places_in page.page)

or_assoc : (a b c : Bool) → (a || (b || c)) ≡ ((a || b) || c)
or_assoc true b c = refl
or_assoc false b c = refl

or_false : (a : Bool) → (a || false) ≡ a
or_false true = refl
or_false false = refl

selected_more : (pages : List SourcePage) (page : SourcePage) (n : ℕ) → is_selected (pages ++ page ∷ []) n ≡ (is_selected pages n || list_any (λ (m : ℕ). m == n) page.selected)
selected_more [] page n = or_false (list_any (λ (m : ℕ). m == n) page.selected)
selected_more (p ∷ pages) page n =
    ap (λ (b : Bool). list_any (λ (m : ℕ). m == n) p.selected || b) (selected_more pages page n)
    ∙ or_assoc (list_any (λ (m : ℕ). m == n) p.selected) (is_selected pages n) (list_any (λ (m : ℕ). m == n) page.selected)

pub total_more : (fonts : SetValue) (old new : Totals) (copy : PageCopy) (pages : List SourcePage) (page : SourcePage) → IsTotal fonts old pages → Shows fonts copy page → IncludesPage old new copy → IsTotal fonts new (pages ++ page ∷ [])
total_more fonts old new copy pages page is shows more =
    let long = length_more pages page in
    let body : length copy.body.now ≡ length page.body = ap length shows.body in
    let placed : length (places_on (pages ++ page ∷ [])) ≡ length (places_on pages) + length page.page.places =
    ap length (places_more pages page) ∙ length-append (places_on pages) (places_in page.page) ∙ ap (λ (k : ℕ). length (places_on pages) + k) (map_long page.page.places) in
    let deep = depth_more 0 pages page in
    let tall = edge_more (lower_edge fonts) pages page in
    let wide = edge_more (right_edge fonts) pages page in
    record {
      bytes = omega (arith, long, body, is.bytes, more.bytes);
      places = omega (arith, placed, is.places, more.places, shows.places);
      depth = omega (arith, deep, is.depth, more.depth, shows.depth);
      tallest = omega (arith, tall, is.tallest, more.tallest, shows.tallest);
      widest = omega (arith, wide, is.widest, more.widest, shows.widest);
      selected = λ n. let s = selected_more pages page n in let a = is.selected n in let b = more.selected n in let d = shows.selected n in cc;
    }

-- the page at an index is shown too
pub record ShownAt (fonts : SetValue) (copy : PageCopy) (shown : List SourcePage) (i : ℕ) (page : SourcePage) : Type 0 where
  pub there : i < length shown
  pub shows : Shows fonts copy (get_or shown i page)

pub shown_at : (fonts : SetValue) (copies : List PageCopy) (shown : List SourcePage) (i : ℕ) (copy : PageCopy) (page : SourcePage) → AreShown fonts copies shown → i < length copies → ShownAt fonts (get_or copies i copy) shown i page
shown_at fonts [] shown i copy page are lt = absurd (omega arith)
shown_at fonts (c ∷ copies) [] i copy page are lt = absurd are
shown_at fonts (c ∷ copies) (p ∷ shown) zero copy page (is, are) lt = record { there = omega arith; shows = is }
shown_at fonts (c ∷ copies) (p ∷ shown) (suc i) copy page (is, are) lt =
    let at = shown_at fonts copies shown i copy page are (omega arith) in
    record { there = omega (arith, at.there); shows = at.shows }

pub shown_long : (fonts : SetValue) (copies : List PageCopy) (shown : List SourcePage) → AreShown fonts copies shown → length copies ≡ length shown
shown_long fonts [] [] are = refl
shown_long fonts [] (p ∷ shown) are = absurd are
shown_long fonts (c ∷ copies) [] are = absurd are
shown_long fonts (c ∷ copies) (p ∷ shown) (is, are) = omega (arith, shown_long fonts copies shown are)

take_whole : (pages : List SourcePage) (n : ℕ) → length pages ≤ n → take n pages ≡ pages
take_whole [] zero long = refl
take_whole [] (suc n) long = refl
take_whole (p ∷ pages) zero long = absurd (omega arith)
take_whole (p ∷ pages) (suc n) long = ap (λ (l : List SourcePage). p ∷ l) (take_whole pages n (omega arith))

pub totals_next : (fonts : SetValue) (old new : Totals) (copies : List PageCopy) (shown : List SourcePage) (i : ℕ) (copy : PageCopy) → AreShown fonts copies shown → i < length copies
    → IsTotal fonts old (take i shown) → IncludesPage old new (get_or copies i copy) → IsTotal fonts new (take (i + 1) shown)
totals_next fonts old new copies shown i copy are lt is more =
    let at = shown_at fonts copies shown i copy (empty_source []) are lt in
    subst (IsTotal fonts new) (sym (take_more shown i (empty_source []) at.there))
    (total_more fonts old new (get_or copies i copy) (take i shown) (get_or shown i (empty_source [])) is at.shows more)

pub totals_whole : (fonts : SetValue) (totals : Totals) (copies : List PageCopy) (shown : List SourcePage) (i : ℕ) → AreShown fonts copies shown → length copies ≤ i → IsTotal fonts totals (take i shown) → IsTotal fonts totals shown
totals_whole fonts totals copies shown i are end is =
    subst (IsTotal fonts totals) (take_whole shown i (omega (arith, shown_long fonts copies shown are))) is

-- before the first page
none_selected : (n : ℕ) → (bit_at 0 n == 1) ≡ false
none_selected n = ap (λ (k : ℕ). k == 1) (bit_at-zero n)

pub total_none : (fonts : SetValue) → IsTotal fonts (record { bytes = 0; places = 0; depth = 0; tallest = 0; widest = 0; fonts = record { bits = 0 } }) []
total_none fonts = record { bytes = refl; places = refl; depth = refl; tallest = refl; widest = refl; selected = λ n. none_selected n }

told_more : (copies : List PageCopy) (copy : PageCopy) → all_told (copies ++ copy ∷ []) ≡ all_told copies ++ told copy ∷ []
told_more [] copy = refl
told_more (c ∷ copies) copy = ap (λ (l : List SourcePage). told c ∷ l) (told_more copies copy)

pub long_next : (old new : Totals) (copies : List PageCopy) (i : ℕ) (copy : PageCopy) → i < length copies → old.bytes ≡ pages_length (all_told (take i copies)) → IncludesPage old new (get_or copies i copy)
    → new.bytes ≡ pages_length (all_told (take (i + 1) copies))
long_next old new copies i copy lt is more =
    let e : pages_length (all_told (take (i + 1) copies)) ≡ pages_length (all_told (take i copies)) + (length (get_or copies i copy).body.now + 46) =
    ap (λ (l : List PageCopy). pages_length (all_told l)) (take_more copies i copy lt) ∙ ap pages_length (told_more (take i copies) (get_or copies i copy)) ∙ length_more (all_told (take i copies)) (told (get_or copies i copy)) in
    omega (arith, e, is, more.bytes)

pub take_copies : (copies : List PageCopy) (n : ℕ) → length copies ≤ n → take n copies ≡ copies
take_copies [] zero long = refl
take_copies [] (suc n) long = refl
take_copies (c ∷ copies) zero long = absurd (omega arith)
take_copies (c ∷ copies) (suc n) long = ap (λ (l : List PageCopy). c ∷ l) (take_copies copies n (omega arith))
