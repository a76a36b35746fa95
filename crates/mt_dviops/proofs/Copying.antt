-- What one pass over a file keeps of its pages (`noted_is`, `open_begins`, `open_selects`, `open_performs`,
-- `open_ends`).
use Rattle.std.proofs.Common.{◌≡◌, ℕ, zero, suc, ◌+◌, ◌-◌, ◌^◌, ◌<◌, ◌≤◌, List, [], ◌∷◌, ◌++◌, length, take, drop, refl, sym, ◌∙◌, ap, arith, length-append, length-drop}
use Rattle.std.specs.Prelude.{ℤ, Option, Some, None, Bool, true, false, max, All, ◌==◌, ◌||◌}
use Rattle.std.specs.Int.{bit_at}
use Rattle.std.specs.List.{list_any}
use Rattle.std.proofs.lemmas.Bool.Decides.{nat_tests}
use Rattle.std.proofs.lemmas.List.{drop-append-le, length-map, take-append-le}
use Rattle.std.proofs.lemmas.List.Folds.{list_any-append}
use Rattle.std.proofs.lemmas.Nat.Bits.{bit_at-zero}
use Rattle.std.proofs.Math.Seq.{drop-length}
use Rattle.mt_family.specs.SetValue.{SetValue}
use Rattle.mt_box.specs.declared.place.Place.{Place}
use Rattle.mt_dvi.specs.Opcodes.{fnt_num_0}
use Rattle.mt_dvi.specs.Codes.{Operation, Char, Rule, Nop, Bop, Eop, Push, Pop, Right, Down, Set, Add, Select, Special, Define, Pre, Post, PostPost, Undefined, bytes_from, operation}
use Rattle.mt_dvi.specs.Edges.{lower_edge, right_edge, greatest_edge, or_zero}
use Rattle.mt_dvi.specs.Machine.{WrittenPlace}
use Rattle.mt_dvi.specs.File.{Phase, BeforePre, BetweenPages, InPage, AfterPost, Page}
use Rattle.mt_dviread.specs.declared.deed.Deed.{Deed}
use Rattle.mt_dviread.specs.Deeds.{IsDeed, deed_of, place_filled, places_of_page, places_with}
use Rattle.mt_dviops.specs.declared.copies.CopiedPage.{CopiedPage}
use Rattle.mt_dviops.specs.declared.selected.SelectedFonts.{SelectedFonts}
use Rattle.mt_dviops.specs.Source.{Source, SourcePage, copy_selection, copy_step, copy_step_in, empty_source}
use Rattle.mt_dviops.specs.Walk.{Step}
use Rattle.mt_dviops.specs.inner.Copies.{HoldsPages}
use Rattle.mt_dviops.specs.inner.Copying.{AreEnded, HoldsEnded, HoldsOpen, noted_by, begun_page, including_place, including_places}
use Rattle.mt_dviops.specs.inner.Inside.{IsInside}
use Rattle.mt_dviops.specs.inner.Shown.{has_selected}

-- what is noted of an opcode is reported by its deed
noted_of : (phase : Phase) (source : Source) (op : Operation) (step : Step) (place : Option Place) → copy_step_in phase source op step ≡ noted_by (deed_of phase op place) source step
noted_of BeforePre source op step place = refl
noted_of AfterPost source op step place = refl
noted_of BetweenPages source (Char put c) step place = refl
noted_of BetweenPages source (Rule put height width) step place = refl
noted_of BetweenPages source Nop step place = refl
noted_of BetweenPages source (Bop counts pointer) step place = refl
noted_of BetweenPages source Eop step place = refl
noted_of BetweenPages source Push step place = refl
noted_of BetweenPages source Pop step place = refl
noted_of BetweenPages source (Right by) step place = refl
noted_of BetweenPages source (Down by) step place = refl
noted_of BetweenPages source (Set register by) step place = refl
noted_of BetweenPages source (Add register) step place = refl
noted_of BetweenPages source (Select number) step place = refl
noted_of BetweenPages source (Special bytes) step place = refl
noted_of BetweenPages source (Define d) step place = refl
noted_of BetweenPages source (Pre p) step place = refl
noted_of BetweenPages source (Post p) step place = refl
noted_of BetweenPages source (PostPost post version) step place = refl
noted_of BetweenPages source Undefined step place = refl
noted_of InPage source (Char put c) step place = refl
noted_of InPage source (Rule put height width) step place = refl
noted_of InPage source Nop step place = refl
noted_of InPage source (Bop counts pointer) step place = refl
noted_of InPage source Eop step place = refl
noted_of InPage source Push step place = refl
noted_of InPage source Pop step place = refl
noted_of InPage source (Right by) step place = refl
noted_of InPage source (Down by) step place = refl
noted_of InPage source (Set register by) step place = refl
noted_of InPage source (Add register) step place = refl
noted_of InPage source (Select number) step place = refl
noted_of InPage source (Special bytes) step place = refl
noted_of InPage source (Define d) step place = refl
noted_of InPage source (Pre p) step place = refl
noted_of InPage source (Post p) step place = refl
noted_of InPage source (PostPost post version) step place = refl
noted_of InPage source Undefined step place = refl

pub noted_is : (source : Source) (step : Step) (deed : Deed) → IsDeed deed step.before.phase (operation step.code step.operands) → copy_step source step ≡ noted_by deed source step
noted_is source step deed is =
    noted_of step.before.phase source (operation step.code step.operands) step (place_filled deed) ∙ ap (λ (d : Deed). noted_by d source step) (sym is)

-- one place more
greatest_more : (edge : Place → ℤ) (most : ℕ) (places : List Place) (place : Place) → greatest_edge edge most (places ++ place ∷ []) ≡ max (greatest_edge edge most places) (or_zero (edge place))
greatest_more edge most [] place = refl
greatest_more edge most (first ∷ places) place = greatest_more edge (max most (or_zero (edge first))) places place

no_bits : (n : ℕ) → (bit_at 0 n == 1) ≡ false
no_bits n = let b = bit_at-zero n in rw b refl

-- bop
pub open_begins : (fonts : SetValue) (bytes bodies : List ℕ) (counts : ℕ) (operands : List ℕ) → counts + 40 ≤ length bytes → bytes_from counts 40 bytes ≡ take 40 operands
    → HoldsOpen fonts bytes bodies (begun_page counts (length bodies)) (empty_source (take 40 operands)) []
open_begins fonts bytes bodies counts operands there is = record {
  there = there;
  inside = omega arith;
  counts = is;
  body = drop-length bodies;
  selected = λ n. no_bits n;
  depth = refl;
  places = refl;
  tallest = refl;
  widest = refl;
}

-- a selection of a font
pub open_selects : (fonts : SetValue) (bytes bodies : List ℕ) (kept : CopiedPage) (page : SourcePage) (places : List Place) (font : ℕ) (new : SelectedFonts) → HoldsOpen fonts bytes bodies kept page places
    → ((m : ℕ) → has_selected new m ≡ (m == font || has_selected kept.fonts m))
    → HoldsOpen fonts bytes (bodies ++ (fnt_num_0 + font) ∷ []) (record kept { fonts = new }) (copy_selection page (Some font)) places
open_selects fonts bytes bodies kept page places font new h is =
    let inside = h.inside in
    let l = length-append bodies ((fnt_num_0 + font) ∷ []) in
    record {
      there = h.there;
      inside = omega (arith, inside, l);
      counts = h.counts;
      body = drop-append-le kept.start bodies ((fnt_num_0 + font) ∷ []) h.inside ∙ ap (λ (b : List ℕ). b ++ (fnt_num_0 + font) ∷ []) h.body;
      selected = λ n. is n ∙ ap (λ (b : Bool). n == font || b) (h.selected n) ∙ one_more (n == font) (font == n) (list_any (λ (m : ℕ). m == n) page.selected) (turned n font) ∙ sym (list_any-append (λ (m : ℕ). m == n) page.selected (font ∷ []));
      depth = h.depth;
      places = h.places;
      tallest = h.tallest;
      widest = h.widest;
    } where
      turned : (m n : ℕ) → (m == n) ≡ (n == m)
      turned m n = grind (arith, nat_tests)

      one_more : (a b c : Bool) → a ≡ b → (a || c) ≡ (c || (b || false))
      one_more true b true e = refl
      one_more true b false e = rw (sym e) refl
      one_more false b true e = refl
      one_more false b false e = rw (sym e) refl

-- any other opcode
open_moves : (fonts : SetValue) (bytes bodies : List ℕ) (kept : CopiedPage) (page : SourcePage) (places : List Place) (opcode : List ℕ) (depth : ℕ) → HoldsOpen fonts bytes bodies kept page places
    → HoldsOpen fonts bytes (bodies ++ opcode) (record kept { depth = max kept.depth depth }) (record page { body = page.body ++ opcode; depth = max page.depth depth }) places
open_moves fonts bytes bodies kept page places opcode depth h =
    let inside = h.inside in
    let l = length-append bodies opcode in
    record {
      there = h.there;
      inside = omega (arith, inside, l);
      counts = h.counts;
      body = drop-append-le kept.start bodies opcode h.inside ∙ ap (λ (b : List ℕ). b ++ opcode) h.body;
      selected = h.selected;
      depth = ap (λ (n : ℕ). max n depth) h.depth;
      places = h.places;
      tallest = h.tallest;
      widest = h.widest;
    }

open_fills : (fonts : SetValue) (bytes bodies : List ℕ) (kept : CopiedPage) (page : SourcePage) (places : List Place) (place : Place) → length places < 2 ^ 32 - 1 → HoldsOpen fonts bytes bodies kept page places
    → HoldsOpen fonts bytes bodies (including_place fonts kept place) page (places ++ place ∷ [])
open_fills fonts bytes bodies kept page places place few h =
    let count = h.places in
    let l = length-append places (place ∷ []) in
    record {
      there = h.there;
      inside = h.inside;
      counts = h.counts;
      body = h.body;
      selected = h.selected;
      depth = h.depth;
      places = omega (arith, count, l, few);
      tallest = ap (λ (n : ℕ). max n (or_zero (lower_edge fonts place))) h.tallest ∙ sym (greatest_more (lower_edge fonts) 0 places place);
      widest = ap (λ (n : ℕ). max n (or_zero (right_edge fonts place))) h.widest ∙ sym (greatest_more (right_edge fonts) 0 places place);
    }

pub open_performs : (fonts : SetValue) (bytes bodies : List ℕ) (kept : CopiedPage) (page : SourcePage) (places : List Place) (opcode : List ℕ) (place : Option Place) (depth : ℕ) → length places < 2 ^ 32 - 1 → HoldsOpen fonts bytes bodies kept page places
    → HoldsOpen fonts bytes (bodies ++ opcode) (including_places fonts (record kept { depth = max kept.depth depth }) place) (record page { body = page.body ++ opcode; depth = max page.depth depth }) (places_with places place)
open_performs fonts bytes bodies kept page places opcode None depth few h = open_moves fonts bytes bodies kept page places opcode depth h
open_performs fonts bytes bodies kept page places opcode (Some place) depth few h =
    open_fills fonts bytes (bodies ++ opcode) (record kept { depth = max kept.depth depth }) (record page { body = page.body ++ opcode; depth = max page.depth depth }) places place few (open_moves fonts bytes bodies kept page places opcode depth h)

-- eop
take_all : (n : ℕ) (xs : List ℕ) → length xs ≡ n → take n xs ≡ xs
take_all zero [] e = refl
take_all zero (x ∷ xs) e = absurd (omega (arith, e))
take_all (suc n) [] e = refl
take_all (suc n) (x ∷ xs) e = ap (λ (l : List ℕ). x ∷ l) (take_all n xs (omega (arith, e)))

pub open_ends : (fonts : SetValue) (bytes bodies : List ℕ) (kept : CopiedPage) (page : SourcePage) (read_page : Page) → HoldsOpen fonts bytes bodies kept page (places_of_page read_page)
    → HoldsEnded fonts bytes bodies (record kept { end = length bodies }) (record page { page = read_page })
open_ends fonts bytes bodies kept page read_page h = record {
  inside = record { there = h.there; ordered = h.inside; inside = omega arith };
  keeps = record {
    counts = h.counts;
    body = take_all (length bodies - kept.start) (drop kept.start bodies) (length-drop kept.start bodies) ∙ h.body;
    selected = h.selected;
    depth = h.depth;
    places = h.places ∙ length-map read_page.places (λ (w : WrittenPlace). w.place);
    tallest = h.tallest;
    widest = h.widest;
  };
}

-- the pages that have ended stay as the bodies grow
one_grows : (fonts : SetValue) (bytes bodies more : List ℕ) (kept : CopiedPage) (page : SourcePage) → HoldsEnded fonts bytes bodies kept page → HoldsEnded fonts bytes (bodies ++ more) kept page
one_grows fonts bytes bodies more kept page h =
    let ordered = h.inside.ordered in
    let inside = h.inside.inside in
    let l = length-append bodies more in
    let d = length-drop kept.start bodies in
    record {
      inside = record { there = h.inside.there; ordered = h.inside.ordered; inside = omega (arith, inside, l) };
      keeps = record {
        counts = h.keeps.counts;
        body = ap (take (kept.end - kept.start)) (drop-append-le kept.start bodies more (omega (arith, ordered, inside)))
            ∙ take-append-le (kept.end - kept.start) (drop kept.start bodies) more (omega (arith, inside, d)) ∙ h.keeps.body;
        selected = h.keeps.selected;
        depth = h.keeps.depth;
        places = h.keeps.places;
        tallest = h.keeps.tallest;
        widest = h.keeps.widest;
      };
    }

pub all_grow : (fonts : SetValue) (bytes bodies more : List ℕ) (kept : List CopiedPage) (pages : List SourcePage) → AreEnded fonts bytes bodies kept pages → AreEnded fonts bytes (bodies ++ more) kept pages
all_grow fonts bytes bodies more [] [] are = tt
all_grow fonts bytes bodies more [] (page ∷ pages) are = absurd are
all_grow fonts bytes bodies more (k ∷ kept) [] are = absurd are
all_grow fonts bytes bodies more (k ∷ kept) (page ∷ pages) (is, are) = (one_grows fonts bytes bodies more k page is, all_grow fonts bytes bodies more kept pages are)

pub one_ends : (fonts : SetValue) (bytes bodies : List ℕ) (kept : List CopiedPage) (pages : List SourcePage) (k : CopiedPage) (page : SourcePage) → AreEnded fonts bytes bodies kept pages → HoldsEnded fonts bytes bodies k page
    → AreEnded fonts bytes bodies (kept ++ k ∷ []) (pages ++ page ∷ [])
one_ends fonts bytes bodies [] [] k page are is = (is, tt)
one_ends fonts bytes bodies [] (p ∷ pages) k page are is = absurd are
one_ends fonts bytes bodies (x ∷ kept) [] k page are is = absurd are
one_ends fonts bytes bodies (x ∷ kept) (p ∷ pages) k page (first, are) is = (first, one_ends fonts bytes bodies kept pages k page are is)

-- at the end of the file
pub all_held : (fonts : SetValue) (bytes bodies : List ℕ) (kept : List CopiedPage) (pages : List SourcePage) → length bodies < 2 ^ 32 → AreEnded fonts bytes bodies kept pages → HoldsPages fonts bytes bodies kept pages
all_held fonts bytes bodies [] [] few are = tt
all_held fonts bytes bodies [] (page ∷ pages) few are = absurd are
all_held fonts bytes bodies (k ∷ kept) [] few are = absurd are
all_held fonts bytes bodies (k ∷ kept) (page ∷ pages) few (is, are) = (
  record {
    short = (let l = ap length is.keeps.body in let t = taken (k.end - k.start) (drop k.start bodies) in let d = length-drop k.start bodies in omega (arith, l, t, d, few));
    keeps = is.keeps;
  },
  all_held fonts bytes bodies kept pages few are,
) where
  taken : (n : ℕ) (xs : List ℕ) → length (take n xs) ≤ length xs
  taken zero xs = omega arith
  taken (suc n) [] = omega arith
  taken (suc n) (x ∷ xs) = let t = taken n xs in omega (arith, t)

pub all_inside : (fonts : SetValue) (bytes bodies : List ℕ) (kept : List CopiedPage) (pages : List SourcePage) → AreEnded fonts bytes bodies kept pages → All (IsInside bytes bodies) kept
all_inside fonts bytes bodies [] pages are = λ k d lt. absurd (omega (arith, lt))
all_inside fonts bytes bodies (k ∷ kept) [] are = absurd are
all_inside fonts bytes bodies (x ∷ kept) (page ∷ pages) (is, are) = each (all_inside fonts bytes bodies kept pages are) where
  each : All (IsInside bytes bodies) kept → All (IsInside bytes bodies) (x ∷ kept)
  each more zero d lt = is.inside
  each more (suc k) d lt = more k d (omega (arith, lt))
