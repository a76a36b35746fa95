-- Lines of the listing, one after another.
use Rattle.std.proofs.Common.{◌≡◌, ◌∙◌, ℕ, suc, ◌+◌, ◌<◌, ◌≤◌, Bool, List, [], ◌∷◌, ◌++◌, length, get_or, take, sym, ap, subst, append_assoc, arith, Result, Ok, Err, OnOk, codes, cond, count_by}
use Rattle.mt_pages.proofs.Common.{sum_by-append, append-nil, take_all, take_more, Place, all_places, is_glyph_place, is_rule_place, listing, number_line, page_text, pages_text}
use Rattle.std.proofs.lemmas.List.{length-append}
use Rattle.mt_pages.specs.inner.Texts.{AreCountsOf, IsListingOf}
use Rattle.mt_pages.specs.declared.listings.ListingText.{ListingText}
use Rattle.mt_pages.specs.declared.summaries.Counts.{Counts}
use Rattle.mt_pages.proofs.PageLemmas.{all_places_append}

-- the page at i is among those up to it
pub taken : (P : List (List Place) → Type 0) (all : List (List Place)) (i : ℕ) (d page : List Place) → i < length all → page ≡ get_or all i d → P (take i all ++ page ∷ []) → P (take (i + 1) all)
taken P all i d page lt is so_far = subst P (ap (λ (p : List Place). take i all ++ p ∷ []) is ∙ sym (take_more all i d lt)) so_far

-- no page is left
pub all_taken : (P : List (List Place) → Type 0) (all : List (List Place)) (i : ℕ) → length all ≤ i → P (take i all) → P all
all_taken P all i le so_far = subst P (take_all i all le) so_far

-- a line of four numbers
pub line_pushed : (start first second third fourth end out a b c d e line : List ℕ)
    → a ≡ out ++ start → b ≡ a ++ first → c ≡ b ++ second → d ≡ c ++ third → e ≡ d ++ fourth → line ≡ e ++ end
    → line ≡ out ++ (start ++ (first ++ (second ++ (third ++ (fourth ++ end)))))
line_pushed start first second third fourth end out a b c d e line p q r s t u = rw (u, t, s, r, q, p) (simp append_assoc)

pub on_ok : {A E P Q : Type 0} (r : Result A E) → (P → Q) → OnOk r P → OnOk r Q
on_ok (Ok x) to is = to is
on_ok (Err e) to is = is

pages_more : (n : ℕ) (pages : List (List Place)) (page : List Place) → pages_text n (pages ++ page ∷ []) ≡ pages_text n pages ++ page_text (n + length pages) page
pages_more n [] page =
    let zero : n ≡ n + length {A = List Place} [] = omega arith in
    append-nil (page_text n page) ∙ ap (λ (k : ℕ). page_text k page) zero
pages_more n (p ∷ ps) page =
    let count : (n + 1) + length ps ≡ n + suc (length ps) = omega arith in
    ap (λ (l : List ℕ). page_text n p ++ l) (pages_more (n + 1) ps page)
    ∙ (sym (append_assoc (page_text n p) (pages_text (n + 1) ps) (page_text ((n + 1) + length ps) page))
    ∙ ap (λ (k : ℕ). (page_text n p ++ pages_text (n + 1) ps) ++ page_text k page) count)

-- a listing of one page more
pub listing_more : (pages : List (List Place)) (page : List Place) (old new : ListingText) → IsListingOf pages old → new.pages ≡ old.pages + 1 → new.out.items ≡ old.out.items ++ page_text (old.pages + 1) page → IsListingOf (pages ++ page ∷ []) new
listing_more pages page old new is count text =
    let next : old.pages + 1 ≡ 1 + length pages = omega (arith, is.count) in
    record {
      is = text ∙ (ap (λ (l : List ℕ). l ++ page_text (old.pages + 1) page) is.is ∙ (ap (λ (k : ℕ). pages_text 1 pages ++ page_text k page) next ∙ sym (pages_more 1 pages page)));
      count = omega (arith, is.count, count, length-append pages (page ∷ []));
    }

-- the whole listing
pub listing_ends : (pages : List (List Place)) (text : ListingText) (out : List ℕ) → IsListingOf pages text → out ≡ text.out.items ++ number_line (codes "pages") text.pages → out ≡ listing pages
unfolding listing
listing_ends pages text out is ends = ends ∙ (ap (λ (l : List ℕ). l ++ number_line (codes "pages") text.pages) is.is ∙ ap (λ (n : ℕ). pages_text 1 pages ++ number_line (codes "pages") n) is.count)

count_more : (p : Place → Bool) (xs ys : List Place) → count_by p (xs ++ ys) ≡ count_by p xs + count_by p ys
count_more p xs ys = sum_by-append (λ (x : Place). cond (p x) 1 0) xs ys

-- the counts of one page more
pub counts_more : (pages : List (List Place)) (page : List Place) (old new : Counts) → AreCountsOf pages old → new.pages ≡ old.pages + 1 → new.glyphs ≡ old.glyphs + count_by is_glyph_place page
    → new.rules ≡ old.rules + count_by is_rule_place page → AreCountsOf (pages ++ page ∷ []) new
counts_more pages page old new is count glyphs rules = record {
  count = omega (arith, is.count, count, length-append pages (page ∷ []));
  glyphs = omega (arith, glyphs, is.glyphs, ap (count_by is_glyph_place) (all_places_append pages page), count_more is_glyph_place (all_places pages) page);
  rules = omega (arith, rules, is.rules, ap (count_by is_rule_place) (all_places_append pages page), count_more is_rule_place (all_places pages) page);
}
