-- A page (`page_written`), and the pages with one page more (`page_more`).
use Rattle.std.proofs.Common.{◌≡◌, ℕ, zero, suc, ◌+◌, ◌<◌, ◌≤◌, List, [], ◌∷◌, ◌++◌, length, take, get_or, refl, sym, ◌∙◌, ap, subst, arith, append_assoc, length-append}
use Rattle.std.specs.Prelude.{ℤ, pos, negsuc, true, All, min, ◌^◌, ◌-◌}
use Rattle.std.specs.Ordering.{int_eq}
use Rattle.std.proofs.lemmas.Bool.Decides.{nat_tests}
use Rattle.std.proofs.lemmas.List.{append-nil, take_more}
use Rattle.std.proofs.lemmas.List.Elements.{All-append}
use Rattle.mt_dvi.specs.Limits.{max_places}
use Rattle.mt_dvi.specs.Codes.{Bop, Eop}
use Rattle.mt_dvi.specs.writer.Emits.{Emits}
use Rattle.mt_dvi.specs.File.{BetweenPages, Continues, Page, at_start, empty_page, file_step}
use Rattle.mt_dvi.specs.Trace.{Opcode, no_trace}
use Rattle.mt_dvi.specs.Lean.{LeanPage}
use Rattle.mt_dvi.specs.writer.LeadsTo.{LeadsTo, Reached, at_origin, in_page, numbers_after, numbers_after_all, with_definitions, with_opcodes, with_places}
use Rattle.mt_dvi.specs.writer.Stands.{Arrived, StandsWith, WritesPlaces}
use Rattle.mt_dvi.specs.Machine.{WrittenPlace}
use Rattle.mt_dvi.specs.WrittenPlaces.{all_places, written_places, numbered_pages, page_counts, numbered_page}
use Rattle.mt_dvi.specs.writer.Pages.{WritesPage, WrittenPages, between_pages}
use Rattle.mt_family.specs.SetValue.{SetValue}
use Rattle.mt_box.specs.declared.place.Place.{Place}
use Rattle.mt_dvi.specs.declared.page.Cursor.{Cursor}
use Rattle.mt_dvi.proofs.Prefix.{leads_next}
use Rattle.mt_dvi.proofs.LeanLemmas.{lean_end, lean_start}
use Rattle.mt_dvi.proofs.PagePlaces.{long}

pub same_int : (z : ℤ) → int_eq z z ≡ true
same_int (pos n) = grind (arith, nat_tests)
same_int (negsuc n) = grind (arith, nat_tests)

-- in a page without places, where last is the offset of its bop
abbrev opened : List Page → ℤ → ℕ → List (List Opcode) → List ℕ → Reached
opened pages last place_count opcodes counts = record {
  file = record at_start { phase = BetweenPages; mag = pos 1000; pages = pages; last = last; place_count = place_count; page = empty_page counts };
  trace = record no_trace { pages = opcodes };
}

step_bop : (fonts : SetValue) (numbers : List ℕ) (pages : List Page) (last : ℤ) (place_count at : ℕ) (opcodes : List (List Opcode)) (counts : List ℕ) (rest : List ℕ)
    → file_step fonts (record ((between_pages fonts numbers pages last place_count opcodes).file) { at = at }) (Bop counts last) rest ≡ Continues (record ((in_page (with_definitions fonts (opened pages (pos at) place_count opcodes counts) numbers) at_origin).file) { at = at })
step_bop fonts numbers pages last place_count at opcodes counts rest = rw (same_int last) refl

step_eop : (fonts : SetValue) (numbers : List ℕ) (pages : List Page) (last : ℤ) (place_count at : ℕ) (opcodes : List (List Opcode)) (counts : List ℕ) (places : List WrittenPlace) (page : List Opcode) (cursor : Cursor) (rest : List ℕ)
    → file_step fonts (record ((in_page (with_opcodes (with_definitions fonts (with_places (opened pages last place_count opcodes counts) places) numbers) page) cursor).file) { at = at }) Eop rest
    ≡ Continues (record ((between_pages fonts numbers (pages ++ record { counts = counts; places = places; specials = [] } ∷ []) last (place_count + length places) (opcodes ++ page ∷ [])).file) { at = at })
step_eop fonts numbers pages last place_count at opcodes counts places page cursor rest = refl

pub page_written : (fonts : SetValue) (o0 o1 o2 o3 : List ℕ) (old_defined new_defined : List ℕ) (number : ℕ) (last : ℤ) (page : List Place)
    → Emits 45 o0 o1 (Bop (page_counts number) last)
    → WritesPlaces fonts o1 o2 old_defined new_defined page
    → Emits 1 o2 o3 Eop
    → WritesPage fonts o0 o3 old_defined new_defined number last page
page_written fonts o0 o1 o2 o3 old_defined new_defined number last page bop places eop = λ pages place_count before few leads.
    let counts = page_counts number in
    let start = opened pages (pos (length o0)) place_count before counts in
    let s1 : StandsWith fonts o1 start old_defined at_origin Arrived = record {
      page = [];
      lean = lean_start;
      leads = leads_next fonts o0 o1 (between_pages fonts old_defined pages last place_count before) (in_page (with_opcodes (with_definitions fonts start old_defined) []) at_origin) (Bop counts last) 45 leads bop
          (λ rest. step_bop fonts old_defined pages last place_count (length o0) before counts rest) refl;
    } in
    let s2 = places start few s1 in
    let s3 : LeadsTo fonts o3 (between_pages fonts new_defined (pages ++ numbered_page fonts number page ∷ []) (pos (length o0)) (place_count + length (written_places fonts page)) (before ++ s2.1.page ∷ [])) =
    leads_next fonts o2 o3 (in_page (with_opcodes (with_definitions fonts (with_places start (written_places fonts page)) new_defined) s2.1.page) s2.0) (between_pages fonts new_defined (pages ++ numbered_page fonts number page ∷ []) (pos (length o0)) (place_count + length (written_places fonts page)) (before ++ s2.1.page ∷ [])) Eop 1 s2.1.leads eop
    (λ rest. step_eop fonts new_defined pages (pos (length o0)) place_count (length o2) before counts (written_places fonts page) s2.1.page s2.0 rest) refl in
    record {
      opcodes = s2.1.page;
      lean = lean_end s2.1.page s2.0 s2.1.lean;
      leads = subst (λ (n : ℕ). LeadsTo fonts o3 (between_pages fonts new_defined (pages ++ numbered_page fonts number page ∷ []) (pos (length o0)) (place_count + n) (before ++ s2.1.page ∷ []))) (long fonts page) s3;
    }

pub joined_more : (pages : List (List Place)) (page : List Place) → all_places (pages ++ page ∷ []) ≡ all_places pages ++ page
joined_more [] page = append-nil page
joined_more (p ∷ pages) page = ap (λ (l : List Place). p ++ l) (joined_more pages page) ∙ sym (append_assoc p (all_places pages) page)

numbered_more : (fonts : SetValue) (n : ℕ) (pages : List (List Place)) (page : List Place) → numbered_pages fonts n (pages ++ page ∷ []) ≡ numbered_pages fonts n pages ++ numbered_page fonts (n + length pages) page ∷ []
numbered_more fonts n [] page = let e : n ≡ n + 0 = omega arith in ap (λ (k : ℕ). numbered_page fonts k page ∷ []) e
numbered_more fonts n (p ∷ pages) page =
    let e : n + 1 + length pages ≡ n + length (p ∷ pages) = omega arith in
    ap (λ (l : List Page). numbered_page fonts n p ∷ l) (numbered_more fonts (n + 1) pages page ∙ ap (λ (k : ℕ). numbered_pages fonts (n + 1) pages ++ numbered_page fonts k page ∷ []) e)

pub used_more : (numbers : List ℕ) (xs ys : List Place) → numbers_after_all numbers (xs ++ ys) ≡ numbers_after_all (numbers_after_all numbers xs) ys
used_more numbers [] ys = refl
used_more numbers (x ∷ xs) ys = used_more (numbers_after numbers x) xs ys

-- how many places they are
pub joined_long : (pages : List (List Place)) (page : List Place) → length (all_places (pages ++ page ∷ [])) ≡ length (all_places pages) + length page
joined_long pages page = ap length (joined_more pages page) ∙ length-append (all_places pages) page

one_of : (page : List Opcode) → LeanPage page → All LeanPage (page ∷ [])
one_of page lean zero d lt = lean
one_of page lean (suc k) d lt = absurd (omega arith)

counted_so : (fonts : SetValue) (out defined : List ℕ) (pages all : List Page) (last : ℤ) (m n : ℕ) (opcodes : List (List Opcode)) → pages ≡ all → m ≡ n → LeadsTo fonts out (between_pages fonts defined pages last m opcodes) → LeadsTo fonts out (between_pages fonts defined all last n opcodes)
counted_so fonts out defined pages all last m n opcodes e f leads =
    subst (λ (ps : List Page). LeadsTo fonts out (between_pages fonts defined ps last n opcodes)) e (subst (λ (k : ℕ). LeadsTo fonts out (between_pages fonts defined pages last k opcodes)) f leads)

-- of a file one page longer
pub page_more : (fonts : SetValue) (out new_out defined new_defined : List ℕ) (last : ℤ) (pages : List (List Place)) (page : List Place)
    → length (all_places pages) + length page ≤ max_places
    → WrittenPages fonts out defined (numbered_pages fonts 1 pages) last (length (all_places pages))
    → WritesPage fonts out new_out defined new_defined (length pages + 1) last page
    → WrittenPages fonts new_out new_defined (numbered_pages fonts 1 (pages ++ page ∷ [])) (pos (length out)) (length (all_places (pages ++ page ∷ [])))
page_more fonts out new_out defined new_defined last pages page few written one =
    let number : 1 + length pages ≡ length pages + 1 = omega arith in
    let s = one (numbered_pages fonts 1 pages) (length (all_places pages)) written.opcodes few written.leads in
    record {
      opcodes = written.opcodes ++ s.opcodes ∷ [];
      lean = All-append LeanPage written.opcodes (s.opcodes ∷ []) written.lean (one_of s.opcodes s.lean);
      leads = counted_so fonts new_out new_defined _ _ (pos (length out)) _ _ _ (sym (numbered_more fonts 1 pages page ∙ ap (λ (k : ℕ). numbered_pages fonts 1 pages ++ numbered_page fonts k page ∷ []) number)) (sym (joined_long pages page)) s.leads;
    }

pub count_more : (pages : List (List Place)) (i : ℕ) (d page : List Place) (count next : ℕ) → i < length pages → page ≡ get_or pages i d → count ≡ min (length (all_places (take i pages))) (2 ^ 64 - 1) → next ≡ min (count + length page) (2 ^ 64 - 1)
    → next ≡ min (length (all_places (take (i + 1) pages))) (2 ^ 64 - 1)
count_more pages i d page count next lt at is add =
    let e : take (i + 1) pages ≡ take i pages ++ get_or pages i d ∷ [] = take_more pages i d lt in
    let l : length (all_places (take (i + 1) pages)) ≡ length (all_places (take i pages)) + length (get_or pages i d) =
    ap (λ (ps : List (List Place)). length (all_places ps)) e ∙ joined_long (take i pages) (get_or pages i d) in
    omega (arith, l, ap length at, is, add)
