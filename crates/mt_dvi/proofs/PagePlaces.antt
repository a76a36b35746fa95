-- The places of a page so far (`places_next`).
use Rattle.std.proofs.Common.{◌≡◌, ℕ, ◌+◌, ◌<◌, ◌≤◌, List, [], ◌∷◌, ◌++◌, suc, get_or, length, take, drop, ◌-◌, refl, sym, ◌∙◌, ap, subst, arith, append_assoc, length-append}
use Rattle.std.specs.Prelude.{ℤ, ◌-ℤ◌, nat_abs, true, false, Bool, Option, Some, None, All, if◌then◌else◌}
use Rattle.std.proofs.lemmas.Bool.Decides.{nat_tests}
use Rattle.std.proofs.lemmas.Int.{ints}
use Rattle.std.proofs.lemmas.List.{append-nil}
use Rattle.mt_scaled.specs.Number.{max_dimen}
use Rattle.mt_box.specs.Places.{h_of, v_of}
use Rattle.mt_dvi.specs.Limits.{max_places}
use Rattle.mt_dvi.specs.writer.Emits.{FitsFourBytes}
use Rattle.mt_dvi.specs.writer.LeadsTo.{IsReachable, Reached, at_origin, cursor_after, cursor_past, font_after, is_among, is_beyond, numbers_after, numbers_after_all, with_place, with_places}
use Rattle.mt_dvi.specs.writer.Stands.{Arrived, IsAt, IsNoneOrAmong, StandsWith, WritesPlace, WritesPlaces}
use Rattle.mt_dvi.specs.Machine.{WrittenPlace, is_far}
use Rattle.mt_dvi.specs.Edges.{right_edge}
use Rattle.mt_dvi.specs.Writable.{InRange, IsWritable}
use Rattle.mt_dvi.specs.WrittenPlaces.{first_of, written_places, must_put}
use Rattle.mt_family.specs.SetValue.{SetValue}
use Rattle.mt_dvi.proofs.FontLemmas.{added_among}
use Rattle.mt_dvi.proofs.MoveLemmas.{half}
use Rattle.mt_box.specs.declared.place.Place.{Place}
use Rattle.mt_box.specs.declared.place.Place.TheVariants.{Glyph, Rule}
use Rattle.mt_dvi.specs.declared.page.Cursor.{Cursor}

pub record PlacesWritten (fonts : SetValue) (page : List Place) (old_out old_defined out defined : List ℕ) (cursor : Cursor) (rest : List Place) : Type 0 where
  pub can : All (IsWritable fonts) rest
  pub v : InRange cursor.v
  pub reach : IsReachable cursor (first_of rest)
  pub selected : IsNoneOrAmong defined cursor.font
  pub used : numbers_after_all defined rest ≡ numbers_after_all old_defined page
  pub done : List WrittenPlace
  pub is : written_places fonts page ≡ done ++ written_places fonts rest
  pub leads : (reached : Reached) → reached.file.place_count + length page ≤ max_places
      → StandsWith fonts old_out reached old_defined at_origin Arrived → StandsWith fonts out (with_places reached done) defined cursor Arrived

pub all_head : (P : Place → Type 0) (x : Place) (xs : List Place) → All P (x ∷ xs) → P x
all_head P x xs all = all 0 x (omega arith)

pub all_tail : (P : Place → Type 0) (x : Place) (xs : List Place) → All P (x ∷ xs) → All P xs
all_tail P x xs all = λ k d lt. all (suc k) d (omega arith)

pub long : (fonts : SetValue) (page : List Place) → length (written_places fonts page) ≡ length page
long fonts [] = refl
long fonts (place ∷ page) = omega (arith, long fonts page)

with_none : (reached : Reached) → with_places reached [] ≡ reached
with_none reached = let e : reached.file.place_count + 0 ≡ reached.file.place_count = omega arith in rw (e, append-nil reached.file.page.places) refl

with_more : (reached : Reached) (done : List WrittenPlace) (place : Place) (put : Bool) → with_place (with_places reached done) place put ≡ with_places reached (done ++ record { place = place; put = put } ∷ [])
with_more reached done place put =
    let m : WrittenPlace = record { place = place; put = put } in
    let e : reached.file.place_count + length done + 1 ≡ reached.file.place_count + length (done ++ m ∷ []) = omega (arith, length-append done (m ∷ [])) in
    rw (e, append_assoc reached.file.page.places done (m ∷ [])) refl

pub first_place : (P : Place → Type 0) (rest : List Place) (d : Place) → 1 ≤ length rest → All P rest → P (get_or rest 0 d)
first_place P rest d lt all = all 0 d (omega arith)

pub reach_first : (cursor : Cursor) (rest : List Place) (d : Place) → 1 ≤ length rest → IsReachable cursor (first_of rest) → FitsFourBytes (h_of (get_or rest 0 d) -ℤ cursor.h)
reach_first cursor [] d lt reach = absurd (omega arith)
reach_first cursor (x ∷ xs) d lt reach = reach

pub can_v : (fonts : SetValue) (place : Place) → IsWritable fonts place → InRange (v_of place)
can_v fonts (Glyph n code h v) can = can.v_in_range
can_v fonts (Rule h v height width) can = can.v_in_range

pub can_h : (fonts : SetValue) (place : Place) → IsWritable fonts place → InRange (h_of place)
can_h fonts (Glyph n code h v) can = can.h_in_range
can_h fonts (Rule h v height width) can = can.h_in_range

pub down_first : (fonts : SetValue) (rest : List Place) (d : Place) (v : ℤ) → 1 ≤ length rest → All (IsWritable fonts) rest → InRange v → FitsFourBytes (v_of (get_or rest 0 d) -ℤ v)
down_first fonts rest d v lt can here = omega (arith, ints, half _ here, half _ (can_v fonts (get_or rest 0 d) (first_place (IsWritable fonts) rest d lt can)))

not_far : (z : ℤ) → is_far z ≡ false → nat_abs z < 2147483648
not_far z e = grind (arith, nat_tests)

reach_from : (h edge next : ℤ) (far : Bool) → is_far (next -ℤ edge) ≡ far → nat_abs h ≤ max_dimen → nat_abs next ≤ max_dimen → FitsFourBytes (next -ℤ (if far then h else edge))
reach_from h edge next true is lt lt' = omega (arith, ints)
reach_from h edge next false is lt lt' = not_far (next -ℤ edge) is

reach_next : (fonts : SetValue) (place : Place) (cursor : Cursor) (rest : List Place) → IsWritable fonts place → All (IsWritable fonts) rest → IsReachable (cursor_after fonts place (must_put fonts place (first_of rest)) cursor) (first_of rest)
reach_next fonts place cursor [] can rest = tt
reach_next fonts place cursor (next ∷ later) can rest = reach_from (h_of place) (right_edge fonts place) (h_of next) (is_far (h_of next -ℤ right_edge fonts place)) refl (half _ (can_h fonts place can)) (half _ (can_h fonts next (all_head (IsWritable fonts) next later rest)))

beyond : (fonts : SetValue) (place : Place) (next : Option Place) → is_beyond (right_edge fonts place) next ≡ must_put fonts place next
beyond fonts place None = refl
beyond fonts place (Some next) = refl

selected_next : (defined new_defined : List ℕ) (place : Place) (font : Option ℕ) → new_defined ≡ numbers_after defined place → IsNoneOrAmong defined font → IsNoneOrAmong new_defined (font_after place font)
selected_next defined new_defined (Glyph n code h v) font used selected = subst (λ (numbers : List ℕ). is_among numbers n ≡ true) (sym used) (added_among defined n)
selected_next defined new_defined (Rule h v height width) font used selected = subst (λ (numbers : List ℕ). IsNoneOrAmong numbers font) (sym used) selected

font_twice : (place : Place) (font : Option ℕ) → font_after place (font_after place font) ≡ font_after place font
font_twice (Glyph n code h v) font = refl
font_twice (Rule h v height width) font = refl

font_kept : (place : Place) (cursor there : Cursor) → IsAt place cursor there → font_after place there.font ≡ there.font
font_kept place cursor there arrived = ap (font_after place) arrived.font ∙ font_twice place cursor.font ∙ sym arrived.font

past : (fonts : SetValue) (place : Place) (put : Bool) (edge : ℤ) (cursor there : Cursor) → edge ≡ right_edge fonts place → IsAt place cursor there → cursor_past put edge there ≡ cursor_after fonts place put there
past fonts place put edge cursor there right arrived = rw (right, arrived.h, arrived.v, font_kept place cursor there arrived) refl

pub places_start : (fonts : SetValue) (page : List Place) (out defined : List ℕ) → All (IsWritable fonts) page → PlacesWritten fonts page out defined out defined at_origin page
places_start fonts page out defined can = record {
  can = can;
  v = record { low = omega (arith, ints); high = omega (arith, ints) };
  reach = reach_top page can;
  selected = tt;
  used = refl;
  done = [];
  is = refl;
  leads = λ reached few stands. subst (λ (r : Reached). StandsWith fonts out r defined at_origin Arrived) (sym (with_none reached)) stands;
} where
  reach_top : (page : List Place) → All (IsWritable fonts) page → IsReachable at_origin (first_of page)
  reach_top [] can = tt
  reach_top (place ∷ page) can = let s = half _ (can_h fonts place (all_head (IsWritable fonts) place page can)) in omega (arith, ints, s)

pub places_more : (fonts : SetValue) (page : List Place) (old_out old_defined out defined new_out new_defined : List ℕ) (cursor there : Cursor) (place : Place) (rest : List Place)
    → PlacesWritten fonts page old_out old_defined out defined cursor (place ∷ rest)
    → new_defined ≡ numbers_after defined place
    → IsAt place cursor there
    → WritesPlace fonts out new_out defined new_defined cursor there place (must_put fonts place (first_of rest))
    → PlacesWritten fonts page old_out old_defined new_out new_defined (cursor_after fonts place (must_put fonts place (first_of rest)) there) rest
places_more fonts page old_out old_defined out defined new_out new_defined cursor there place rest written used arrived one =
    let put = must_put fonts place (first_of rest) in
    let here = all_head (IsWritable fonts) place rest written.can in
    let others = all_tail (IsWritable fonts) place rest written.can in
    let m : WrittenPlace = record { place = place; put = put } in
    record {
      can = others;
      v = can_v fonts place here;
      reach = reach_next fonts place there rest here others;
      selected = subst (IsNoneOrAmong new_defined) (sym (ap (font_after place) arrived.font ∙ font_twice place cursor.font)) (selected_next defined new_defined place cursor.font used written.selected);
      used = ap (λ (l : List ℕ). numbers_after_all l rest) used ∙ written.used;
      done = written.done ++ m ∷ [];
      is = written.is ∙ sym (append_assoc written.done (m ∷ []) (written_places fonts rest));
      leads = λ reached few stands.
          let count : reached.file.place_count + length written.done < max_places =
          omega (arith, long fonts page, ap length written.is, length-append written.done (written_places fonts (place ∷ rest)), long fonts rest) in
          subst (λ (r : Reached). StandsWith fonts new_out r new_defined (cursor_after fonts place put there) Arrived) (with_more reached written.done place put)
          (one (with_places reached written.done) count (written.leads reached few stands));
    }

abbrev pub later : List Place → List Place
later rest = take (length rest - 1) (drop 1 rest)

pub later_is : (x : Place) (xs : List Place) → later (x ∷ xs) ≡ xs
later_is x xs = let e : length (x ∷ xs) - 1 ≡ length xs = omega arith in ap (λ (n : ℕ). take n xs) e ∙ whole xs where
  whole : (xs : List Place) → take (length xs) xs ≡ xs
  whole [] = refl
  whole (x ∷ xs) = ap (λ (l : List Place). x ∷ l) (whole xs)

pub all_later : (P : Place → Type 0) (xs : List Place) → 1 ≤ length xs → All P xs → All P (later xs)
all_later P [] lt all = absurd (omega arith)
all_later P (x ∷ xs) lt all = subst (All P) (sym (later_is x xs)) (all_tail P x xs all)

pub places_next : (fonts : SetValue) (page : List Place) (old_out old_defined out defined new_out new_defined : List ℕ) (cursor there next : Cursor) (rest : List Place) (d : Place) (put : Bool) (edge : ℤ)
    → 1 ≤ length rest
    → PlacesWritten fonts page old_out old_defined out defined cursor rest
    → edge ≡ right_edge fonts (get_or rest 0 d)
    → put ≡ is_beyond edge (first_of (later rest))
    → new_defined ≡ numbers_after defined (get_or rest 0 d)
    → IsAt (get_or rest 0 d) cursor there
    → WritesPlace fonts out new_out defined new_defined cursor there (get_or rest 0 d) put
    → next ≡ cursor_past put edge there
    → PlacesWritten fonts page old_out old_defined new_out new_defined next (later rest)
places_next fonts page old_out old_defined out defined new_out new_defined cursor there next [] d put edge lt written right is used arrived one after = absurd (omega arith)
places_next fonts page old_out old_defined out defined new_out new_defined cursor there next (x ∷ xs) d put edge lt written right is used arrived one after =
    let e : put ≡ must_put fonts x (first_of xs) = is ∙ ap (λ (l : List Place). is_beyond edge (first_of l)) (later_is x xs) ∙ ap (λ (z : ℤ). is_beyond z (first_of xs)) right ∙ beyond fonts x (first_of xs) in
    let n : cursor_after fonts x (must_put fonts x (first_of xs)) there ≡ next = sym (after ∙ past fonts x put edge cursor there right arrived ∙ ap (λ (b : Bool). cursor_after fonts x b there) e) in
    let one' = subst (λ (b : Bool). WritesPlace fonts out new_out defined new_defined cursor there x b) e one in
    subst (λ (l : List Place). PlacesWritten fonts page old_out old_defined new_out new_defined next l) (sym (later_is x xs))
    (subst (λ (c : Cursor). PlacesWritten fonts page old_out old_defined new_out new_defined c xs) n
    (places_more fonts page old_out old_defined out defined new_out new_defined cursor there x xs written used arrived one'))

-- no place is left
pub places_end : (fonts : SetValue) (page : List Place) (old_out old_defined out defined : List ℕ) (cursor : Cursor) (rest : List Place) → length rest < 1 → PlacesWritten fonts page old_out old_defined out defined cursor rest
    → (defined ≡ numbers_after_all old_defined page) × WritesPlaces fonts old_out out old_defined defined page
places_end fonts page old_out old_defined out defined cursor [] lt written =
    let e : written.done ≡ written_places fonts page = sym (written.is ∙ append-nil written.done) in
    (written.used, λ reached few stands. (cursor, subst (λ (ms : List WrittenPlace). StandsWith fonts out (with_places reached ms) defined cursor Arrived) e (written.leads reached few stands)))
places_end fonts page old_out old_defined out defined cursor (x ∷ xs) lt written = absurd (omega arith)

pub later_length : (xs : List Place) → 1 ≤ length xs → length (later xs) + 1 ≡ length xs
later_length [] lt = absurd (omega arith)
later_length (x ∷ xs) lt = omega (arith, ap length (later_is x xs))
