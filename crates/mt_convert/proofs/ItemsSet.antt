-- What an item that passes is set to, whatever its row, its space or its kern is (`set_as`).
use Rattle.std.proofs.Common.{◌≡◌, List, sym, subst, refl, None, ℤ, Ok, Err}
use Rattle.mt_convert.proofs.Common.{SetValue, PieceValue, Inner, forward_of, kind_class, Glue, Setting, ◌>>=◌, test_value, in_points, glue_in_points, Current, set_item, HalfValue, HalfAtom, HalfLeft, HalfMiddle, HalfRight, HalfStyle, HalfKern, HalfSpace, current_after_items, current_after_half}
use Rattle.std.specs.Prelude.{⊤}
use Rattle.mt_convert.specs.inner.Turns.{PassedElement, PassedAtom, PassedFraction, PassedLeft, PassedMiddle, PassedRight, PassedStyle, PassedMuSpace, PassedSpace, PassedMuKern, PassedKern, flat_item, flat_items}

-- what setting it makes
abbrev pub Made : PassedElement → Type 0
Made (PassedAtom kind limits nucleus sup sub role kern) = List PieceValue
Made (PassedFraction thickness left right num den) = List PieceValue
Made (PassedMuSpace glue) = Glue
Made (PassedSpace glue) = Glue
Made (PassedMuKern amount) = ℤ
Made (PassedKern amount) = ℤ
Made _ = ⊤

abbrev pub half_made : Current → (p : PassedElement) → Made p → HalfValue
half_made current (PassedAtom kind limits nucleus sup sub role kern) row = HalfAtom (forward_of current.last (kind_class kind)) row
half_made current (PassedFraction thickness left right num den) row = HalfAtom Inner row
half_made current (PassedLeft delim) u = HalfLeft delim
half_made current (PassedMiddle delim) u = HalfMiddle delim
half_made current (PassedRight delim) u = HalfRight delim
half_made current (PassedStyle style) u = HalfStyle style
half_made current (PassedMuSpace glue) made = HalfSpace made
half_made current (PassedSpace glue) made = HalfSpace made
half_made current (PassedMuKern amount) made = HalfKern made
half_made current (PassedKern amount) made = HalfKern made

pub record SetAs (current : Current) (p : PassedElement) (h : HalfValue) : Type 0 where
  pub made : Made p
  pub is : h ≡ half_made current p made

ok_half : (x y : HalfValue) → ◌≡◌ {A = Setting HalfValue} (Ok x) (Ok y) → x ≡ y
ok_half x y e = cc

by_step : {A : Type 0} (current : Current) (p : PassedElement) (s : Setting A) (made : A → Made p) (h : HalfValue) → s >>= (λ x. Ok (half_made current p (made x))) ≡ Ok h → SetAs current p h
by_step current p (Ok x) made h e = record { made = made x; is = sym (ok_half (half_made current p (made x)) h e) }
by_step current p (Err fault) made h e = absurd (cc)

by_two : {A B : Type 0} (current : Current) (p : PassedElement) (s : Setting A) (t : Setting B) (made : B → Made p) (h : HalfValue) → s >>= (λ _. t >>= (λ x. Ok (half_made current p (made x)))) ≡ Ok h → SetAs current p h
by_two current p (Ok x) t made h e = by_step current p t made h e
by_two current p (Err fault) t made h e = absurd (cc)

pub set_as : (fonts : SetValue) (current : Current) (p : PassedElement) (h : HalfValue) → set_item fonts current (flat_item fonts p) ≡ Ok h → SetAs current p h
set_as fonts current (PassedAtom kind limits nucleus sup sub role kern) h e = by_step current (PassedAtom kind limits nucleus sup sub role kern) _ (λ row. row) h e
set_as fonts current (PassedFraction thickness left right num den) h e = by_step current (PassedFraction thickness left right num den) _ (λ row. row) h e
set_as fonts current (PassedMuSpace glue) h e =
    let g = glue_in_points fonts current.style glue in
    by_two current (PassedMuSpace glue) (test_value g.width) (test_value g.shrink) (λ _. g) h e
set_as fonts current (PassedSpace glue) h e = by_two current (PassedSpace glue) (test_value glue.width) (test_value glue.shrink) (λ _. glue) h e
set_as fonts current (PassedMuKern amount) h e =
    let k = in_points fonts current.style amount in
    by_step current (PassedMuKern amount) (test_value k) (λ _. k) h e
set_as fonts current (PassedKern amount) h e = by_step current (PassedKern amount) (test_value amount) (λ _. amount) h e
set_as fonts current _ h e = record { made = tt; is = sym (ok_half _ h e) }

-- ---- what it changes for those after it: the kern after it changes nothing

after_made : (fonts : SetValue) (current : Current) (p : PassedElement) (made : Made p) → current_after_items current (flat_items fonts p) ≡ current_after_half current (half_made current p made)
after_made fonts current (PassedAtom kind limits nucleus sup sub role None) made = refl
after_made fonts current _ made = refl

pub after_set : (fonts : SetValue) (current : Current) (p : PassedElement) (h : HalfValue) → set_item fonts current (flat_item fonts p) ≡ Ok h → current_after_items current (flat_items fonts p) ≡ current_after_half current h
after_set fonts current p h e =
    let s = set_as fonts current p h e in
    subst (λ x. current_after_items current (flat_items fonts p) ≡ current_after_half current x) (sym s.is) (after_made fonts current p s.made)
