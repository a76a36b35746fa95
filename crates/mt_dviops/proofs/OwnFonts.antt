-- The fonts that pages select are those that are defined for them (`all_select`).
use Rattle.std.proofs.Common.{◌≡◌, ℕ, zero, suc, ◌+◌, ◌<◌, ◌≤◌, List, [], ◌∷◌, length, get_or, refl, ◌∙◌, ap, arith}
use Rattle.std.specs.Prelude.{pos, Bool, true, false, Some, map, ◌==◌, ◌||◌}
use Rattle.std.specs.List.{list_any, range_with_len}
use Rattle.std.proofs.lemmas.Bool.Decides.{nat_tests}
use Rattle.std.proofs.lemmas.Map.Views.{any-filter_same}
use Rattle.mt_family.specs.SetValue.{SetValue, number_named}
use Rattle.mt_dvi.specs.Fonts.{definition_of}
use Rattle.mt_dvi.specs.writer.LeadsTo.{is_among}
use Rattle.mt_dvi.proofs.FontLemmas.{defined_is}
use Rattle.mt_dviops.specs.Source.{SourcePage}
use Rattle.mt_dviops.specs.Result.{is_selected, selected_fonts}
use Rattle.mt_dviops.specs.Repeats.{AreCopies, SelectsOwn}
use Rattle.mt_dviops.proofs.CopiedPages.{AllSelect}

-- the name and the size by which the set's fonts are defined lead back to their numbers
abbrev pub LeadsBack : SetValue → Type 0
LeadsBack fonts = (n : ℕ) → n < length fonts.fonts → number_named fonts (definition_of fonts n).name (pos (definition_of fonts n).size) ≡ Some n

selects_own : (fonts : SetValue) (numbers : List ℕ) (n : ℕ) → LeadsBack fonts → n < length fonts.fonts → is_among numbers n ≡ true → SelectsOwn fonts (map (definition_of fonts) numbers) n
selects_own fonts numbers n back lt among = λ m. rw (defined_is fonts numbers n, among, back n lt) refl

in_range : (a len n : ℕ) → a ≤ n → n < a + len → list_any (λ (m : ℕ). m == n) (range_with_len a len) ≡ true
in_range a zero n low high = absurd (omega (arith, low, high))
in_range a (suc len) n low high = first (a == n) refl (λ l. in_range (a + 1) len n l (omega (arith, high))) where
  first : (b : Bool) → (a == n) ≡ b → (a + 1 ≤ n → list_any (λ (m : ℕ). m == n) (range_with_len (a + 1) len) ≡ true) → (b || list_any (λ (m : ℕ). m == n) (range_with_len (a + 1) len)) ≡ true
  first true e ih = refl
  first false e ih = let l : a + 1 ≤ n = grind (arith, nat_tests) in ih l

among_selected : (fonts : SetValue) (pages : List SourcePage) (n : ℕ) → n < length fonts.fonts → is_selected pages n ≡ true → is_among (selected_fonts fonts pages) n ≡ true
among_selected fonts pages n lt is =
    any-filter_same (λ (m : ℕ). m == n) (is_selected pages) true (λ k e. let same : k ≡ n = grind (arith, nat_tests) in ap (is_selected pages) same ∙ is) (range_with_len 0 (length fonts.fonts))
    ∙ in_range 0 (length fonts.fonts) n (omega arith) (omega (arith, lt))

any_at : (xs : List ℕ) (k d : ℕ) → k < length xs → list_any (λ (m : ℕ). m == get_or xs k d) xs ≡ true
any_at [] k d lt = absurd (omega arith)
any_at (x ∷ xs) zero d lt = let e : (x == x) ≡ true = grind (arith, nat_tests) in rw e refl
any_at (x ∷ xs) (suc k) d lt = either (x == get_or xs k d) (any_at xs k d (omega arith)) where
  either : (b : Bool) → list_any (λ (m : ℕ). m == get_or xs k d) xs ≡ true → (b || list_any (λ (m : ℕ). m == get_or xs k d) xs) ≡ true
  either true e = refl
  either false e = e

or_right : (a b : Bool) → b ≡ true → (a || b) ≡ true
or_right true b e = refl
or_right false b e = e

or_left : (a b : Bool) → a ≡ true → (a || b) ≡ true
or_left true b e = refl
or_left false b e = absurd (cc)

select_among : (fonts : SetValue) (pages copies : List SourcePage) → LeadsBack fonts → AreCopies fonts copies → ((n : ℕ) → is_selected copies n ≡ true → is_selected pages n ≡ true)
    → AllSelect fonts (map (definition_of fonts) (selected_fonts fonts pages)) copies
select_among fonts pages [] back are into = tt
select_among fonts pages (copy ∷ copies) back (is, are) into = (
  λ k d lt. let n = get_or copy.selected k d in
      let low : n < length fonts.fonts = is.repeats.there k d lt in
      selects_own fonts (selected_fonts fonts pages) n back low (among_selected fonts pages n low (into n (or_left _ (is_selected copies n) (any_at copy.selected k d lt)))),
  select_among fonts pages copies back are (λ n e. into n (or_right (list_any (λ (m : ℕ). m == n) copy.selected) _ e)),
)

pub all_select : (fonts : SetValue) (pages : List SourcePage) → LeadsBack fonts → AreCopies fonts pages → AllSelect fonts (map (definition_of fonts) (selected_fonts fonts pages)) pages
all_select fonts pages back are = select_among fonts pages pages back are (λ n e. e)
