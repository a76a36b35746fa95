-- A file without pages (`file_begun`), with one page more (`page_added`), and with all pages of a list (`can_take`).
use Rattle.std.proofs.Common.{◌≡◌, ℕ, zero, suc, ◌+◌, ◌*◌, ◌<◌, ◌≤◌, List, [], ◌∷◌, ◌++◌, length, take, get_or, refl, sym, ◌∙◌, ap, subst, arith, length-append}
use Rattle.std.specs.Prelude.{ℤ, pos, negsuc, All}
use Rattle.std.proofs.lemmas.Int.{ints}
use Rattle.std.proofs.lemmas.List.{take_more}
use Rattle.mt_family.specs.SetValue.{SetValue, IsSet}
use Rattle.mt_box.specs.declared.place.Place.{Place}
use Rattle.mt_dvi.specs.Limits.{max_dvi_pages, max_places}
use Rattle.mt_dvi.specs.Codes.{Pre}
use Rattle.mt_dvi.specs.File.{at_start}
use Rattle.mt_dvi.specs.FileOf.{CanTake, IsFileOf}
use Rattle.mt_dvi.specs.Trace.{no_trace}
use Rattle.mt_dvi.specs.WrittenPlaces.{all_places, numbered_pages}
use Rattle.mt_dvi.specs.Writable.{IsWritable}
use Rattle.mt_dvi.specs.writer.Distinct.{AreDistinct}
use Rattle.mt_dvi.specs.writer.Emits.{Emits, own_preamble}
use Rattle.mt_dvi.specs.writer.Greatest.{edges_after, no_edges}
use Rattle.mt_dvi.specs.writer.LeadsTo.{GrowsWith, numbers_after_all}
use Rattle.mt_dvi.specs.writer.Pages.{WritesPage, WrittenPages, between_pages}
use Rattle.mt_dvi.specs.declared.edges.GreatestEdges.{GreatestEdges}
use Rattle.mt_dvi.specs.declared.file.DviFile.{DviFile}
use Rattle.mt_dvi.proofs.DistinctLemmas.{distinct_all}
use Rattle.mt_dvi.proofs.Greatest.{edges_append}
use Rattle.mt_dvi.proofs.PageLemmas.{joined_long, joined_more, page_more, used_more}
use Rattle.mt_dvi.proofs.Prefix.{begun, leads_next, longer}
use Rattle.mt_dvi.proofs.UsedFonts.{there_all}

none_written : (fonts : SetValue) (o0 o1 : List ℕ) → o0 ≡ [] → Emits 15 o0 o1 (Pre own_preamble) → WrittenPages fonts o1 [] [] (negsuc 0) 0
none_written fonts o0 o1 empty pre = record {
  opcodes = [];
  lean = λ k d lt. absurd (omega arith);
  leads = leads_next fonts o0 o1 (record { file = at_start; trace = no_trace }) (between_pages fonts [] [] (negsuc 0) 0 []) (Pre own_preamble) 15 (begun fonts o0 empty) pre (λ rest. refl) refl;
}

pub file_begun : (fonts : SetValue) (file : DviFile) (o0 : List ℕ) → IsSet fonts → o0 ≡ [] → Emits 15 o0 file.out.items (Pre own_preamble)
    → file.defined ≡ [] → file.greatest ≡ no_edges → file.last ≡ negsuc 0 → file.pages ≡ 0 → file.places ≡ 0 → IsFileOf fonts [] file
file_begun fonts file o0 set empty pre none edges last pages places = record {
  few_pages = omega arith;
  few_places = omega arith;
  set = set;
  written = rw (none, last) (none_written fonts o0 file.out.items empty pre);
  used = none;
  distinct = rw none (record { count = refl });
  there = rw none (λ k d lt. absurd (omega arith));
  edges = edges;
  last = rw last (omega (arith, ints));
  page_count = pages;
  place_count = places;
  long = omega (arith, longer 15 o0 file.out.items _ pre, ap length empty);
}

-- the offsets in a file fit four bytes
pub short_enough : (fonts : SetValue) (pages : List (List Place)) (file : DviFile) → IsFileOf fonts pages file → length file.out.items ≤ 41027633
short_enough fonts pages file so_far = let count = so_far.distinct.count in omega (arith, so_far.long, so_far.few_pages, so_far.few_places, count)

-- the numbers of a file of some pages are those of a file of other pages, if these are written so far
abbrev pub FewWith : DviFile → List Place → Type 0
FewWith file page = (file.pages < max_dvi_pages) × (file.places + length page ≤ max_places)

pub few_with : (fonts : SetValue) (file : DviFile) (page : List Place) → CanTake fonts file page → FewWith file page
few_with fonts file page can = (omega (arith, can.few_pages, can.file_of.page_count), omega (arith, can.few_places, can.file_of.place_count))

pub page_added : (fonts : SetValue) (pages : List (List Place)) (page : List Place) (old new : DviFile) (number : ℕ)
    → IsFileOf fonts pages old → FewWith old page → All (IsWritable fonts) page
    → new.defined ≡ numbers_after_all old.defined page
    → new.greatest ≡ edges_after fonts old.greatest page
    → WritesPage fonts old.out.items new.out.items old.defined new.defined number old.last page
    → GrowsWith (19 * length page + 46) old.out.items new.out.items old.defined new.defined
    → number ≡ old.pages + 1
    → new.last ≡ pos (length old.out.items) → new.pages ≡ old.pages + 1 → new.places ≡ old.places + length page
    → IsFileOf fonts (pages ++ page ∷ []) new
page_added fonts pages page old new number file few can defined greatest one grows counted last page_count place_count =
    let joined : all_places (pages ++ page ∷ []) ≡ all_places pages ++ page = joined_more pages page in
    let long : length (all_places (pages ++ page ∷ [])) ≡ length (all_places pages) + length page = joined_long pages page in
    let more : length (pages ++ page ∷ []) ≡ length pages + 1 = omega (arith, length-append pages (page ∷ [])) in
    let distinct = distinct_all fonts old.defined page (omega (arith, file.set.loaded.count, file.set.list.few)) can file.distinct in
    let next : number ≡ length pages + 1 = omega (arith, counted, file.page_count) in
    let small : length old.out.items ≤ 41027633 = short_enough fonts pages old file in
    record {
      few_pages = omega (arith, more, few.0, file.page_count);
      few_places = omega (arith, long, few.1, file.place_count);
      set = file.set;
      written = subst (λ (z : ℤ). WrittenPages fonts new.out.items new.defined (numbered_pages fonts 1 (pages ++ page ∷ [])) z (length (all_places (pages ++ page ∷ [])))) (sym last)
          (page_more fonts old.out.items new.out.items old.defined new.defined old.last pages page (omega (arith, few.1, file.place_count)) file.written
          (subst (λ (n : ℕ). WritesPage fonts old.out.items new.out.items old.defined new.defined n old.last page) next one));
      used = defined ∙ ap (λ (l : List ℕ). numbers_after_all l page) file.used ∙ sym (used_more [] (all_places pages) page) ∙ ap (λ (l : List Place). numbers_after_all [] l) (sym joined);
      distinct = subst AreDistinct (sym defined) distinct;
      there = subst (All (λ (n : ℕ). n < length fonts.fonts)) (sym defined) (there_all fonts old.defined page can file.there);
      edges = greatest ∙ ap (λ (g : GreatestEdges). edges_after fonts g page) file.edges ∙ sym (edges_append fonts no_edges (all_places pages) page) ∙ ap (edges_after fonts no_edges) (sym joined);
      last = rw last (omega (arith, ints, small));
      page_count = omega (arith, page_count, file.page_count, more);
      place_count = omega (arith, place_count, file.place_count, long);
      long = omega (arith, file.long, grows, more, long);
    }

take_long : (xs : List (List Place)) (i : ℕ) → i ≤ length xs → length (take i xs) ≡ i
take_long xs zero lt = refl
take_long [] (suc i) lt = absurd (omega arith)
take_long (x ∷ xs) (suc i) lt = omega (arith, take_long xs i (omega arith))

joined_take : (xs : List (List Place)) (i : ℕ) → length (all_places (take i xs)) ≤ length (all_places xs)
joined_take xs zero = omega arith
joined_take [] (suc i) = omega arith
joined_take (x ∷ xs) (suc i) = omega (arith, joined_take xs i, length-append x (all_places (take i xs)), length-append x (all_places xs))

-- the next page of these can be added
pub can_take : (fonts : SetValue) (all : List (List Place)) (i : ℕ) (d page : List Place) (file : DviFile) → i < length all → page ≡ get_or all i d
    → length all ≤ max_dvi_pages → length (all_places all) ≤ max_places → All (λ (page : List Place). All (IsWritable fonts) page) all
    → IsFileOf fonts (take i all) file → CanTake fonts file page
can_take fonts all i d page file lt is few places can so_far =
    let more : length (all_places (take (i + 1) all)) ≡ length (all_places (take i all)) + length (get_or all i d) = ap (λ (l : List (List Place)). length (all_places l)) (take_more all i d lt) ∙ joined_long (take i all) (get_or all i d) in
    record {
      pages = take i all;
      file_of = so_far;
      can = subst (All (IsWritable fonts)) (sym is) (can i d lt);
      few_pages = omega (arith, take_long all i (omega arith), few, lt);
      few_places = omega (arith, more, ap length is, joined_take all (i + 1), places);
    }

-- and then it is among the pages so far
pub taken : (fonts : SetValue) (all : List (List Place)) (i : ℕ) (d page : List Place) (file : DviFile) → i < length all → page ≡ get_or all i d
    → IsFileOf fonts (take i all ++ page ∷ []) file → IsFileOf fonts (take (i + 1) all) file
taken fonts all i d page file lt is so_far =
    subst (λ (pages : List (List Place)). IsFileOf fonts pages file) (ap (λ (p : List Place). take i all ++ p ∷ []) is ∙ sym (take_more all i d lt)) so_far

-- no page is left
pub all_taken : (fonts : SetValue) (all : List (List Place)) (i : ℕ) (file : DviFile) → length all ≤ i → IsFileOf fonts (take i all) file → IsFileOf fonts all file
all_taken fonts all i file lt so_far = subst (λ (pages : List (List Place)). IsFileOf fonts pages file) (take_whole all i lt) so_far where
  take_whole : (xs : List (List Place)) (i : ℕ) → length xs ≤ i → take i xs ≡ xs
  take_whole [] zero lt = refl
  take_whole [] (suc i) lt = refl
  take_whole (x ∷ xs) zero lt = absurd (omega arith)
  take_whole (x ∷ xs) (suc i) lt = ap (λ (l : List (List Place)). x ∷ l) (take_whole xs i (omega arith))
