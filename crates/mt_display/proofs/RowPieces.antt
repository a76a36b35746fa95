-- The pieces of a row in a line pack to the row that they are for.
use Rattle.std.proofs.Common.{◌≡◌, List, [], ◌∷◌, ◌++◌, ℤ, pos, ◌+ℤ◌, ◌-ℤ◌, Bool, refl, arith, ◌∙◌, Result, Ok, Err, IfOk}
use Rattle.mt_display.proofs.Common.{ints, clamps, int_max, Within, max_dimen, Place, ExtentsInRange, PackError, BoxValue, Layout, layout_of, all_moved, PieceBox, PieceKern, pack, nil_right, EquationLayout, centred_row, equation_row, margin, number_place}
use Rattle.mt_box.proofs.Equalities.{extents_eq, layout_eq}
use Rattle.mt_display.specs.declared.equations.EquationKerns.{EquationKerns}
use Rattle.mt_display.specs.inner.EquationRows.{AreInRange, equation_pieces}

not_negative : (x : ℤ) → Within max_dimen x → Within max_dimen (int_max x (pos 0))
not_negative x h = record { low = omega (arith, ints, clamps, h.low, h.high); high = omega (arith, ints, clamps, h.low, h.high) }

-- ---- a row in the middle

one_box : (x y : ℤ) (ps : List Place) → x ≡ y → all_moved x (pos 0) ps ++ [] ≡ all_moved y (pos 0) ps
one_box x y ps e = rw (e, nil_right _) refl

centred_width : (z x y b w : ℤ) → x ≡ b → y ≡ (z -ℤ w) -ℤ b → x +ℤ (w +ℤ (y +ℤ pos 0)) ≡ z
centred_width z x y b w e f = omega (arith, ints, e, f)

from_zero : (x : ℤ) → pos 0 +ℤ x ≡ x
from_zero x = omega (arith, ints)

pub centred_packed : (z x y b : ℤ) (l : Layout) → x ≡ b → b ≡ margin (z -ℤ l.extents.width) → y ≡ (z -ℤ l.extents.width) -ℤ b → pack (PieceKern x ∷ PieceBox (pos 0) l ∷ PieceKern y ∷ []) ≡ centred_row z l
centred_packed z x y b l k e f =
    layout_eq
    (extents_eq (centred_width z x y b l.extents.width k f) (omega (arith, ints, clamps)) (omega (arith, ints, clamps)))
    (one_box (pos 0 +ℤ x) (margin (z -ℤ l.extents.width)) l.places (from_zero x ∙ k ∙ e))

pub centred_in_range : (z : ℤ) (l : Layout) → Within max_dimen z → ExtentsInRange l.extents → ExtentsInRange (centred_row z l).extents
centred_in_range z l h k = record { width = h; height = not_negative l.extents.height k.height; depth = not_negative l.extents.depth k.depth }

-- ---- an equation

tallest : (a b c : ℤ) → int_max (pos 0) (int_max (a +ℤ pos 0) (int_max (b +ℤ pos 0) (int_max (pos 0) (int_max (c +ℤ pos 0) (int_max (pos 0) (pos 0)))))) ≡ int_max a (int_max b (int_max c (pos 0)))
tallest a b c = omega (arith, ints, clamps)

deepest : (a b c : ℤ) → int_max (pos 0) (int_max (a -ℤ pos 0) (int_max (b -ℤ pos 0) (int_max (pos 0) (int_max (c -ℤ pos 0) (int_max (pos 0) (pos 0)))))) ≡ int_max a (int_max b (int_max c (pos 0)))
deepest a b c = omega (arith, ints, clamps)

whole_width : (z x n p q r f s m : ℤ) → p ≡ x -ℤ f → q ≡ n -ℤ (x +ℤ s) → r ≡ z -ℤ (n +ℤ m) → p +ℤ (f +ℤ (s +ℤ (q +ℤ (m +ℤ (r +ℤ pos 0))))) ≡ z
whole_width z x n p q r f s m a b c = omega (arith, ints, a, b, c)

three_boxes : {x y u v n m : ℤ} (ps qs rs : List Place) → x ≡ y → u ≡ v → n ≡ m → all_moved x (pos 0) ps ++ (all_moved u (pos 0) qs ++ (all_moved n (pos 0) rs ++ [])) ≡ all_moved y (pos 0) ps ++ (all_moved v (pos 0) qs ++ all_moved m (pos 0) rs)
three_boxes ps qs rs e f g = rw (e, f, g, nil_right _) refl

at_first : (x p f : ℤ) → p ≡ x -ℤ f → pos 0 +ℤ p ≡ x -ℤ f
at_first x p f e = omega (arith, ints, e)

at_second : (x p f : ℤ) → p ≡ x -ℤ f → (pos 0 +ℤ p) +ℤ f ≡ x
at_second x p f e = omega (arith, ints, e)

at_number : (x n p q f s : ℤ) → p ≡ x -ℤ f → q ≡ n -ℤ (x +ℤ s) → (((pos 0 +ℤ p) +ℤ f) +ℤ s) +ℤ q ≡ n
at_number x n p q f s e g = omega (arith, ints, e, g)

pub equation_packed : (z x : ℤ) (left : Bool) (k : EquationKerns) (e : EquationLayout) → k.before.sp ≡ x -ℤ e.first.extents.width
    → k.between.sp ≡ number_place z left e.number.extents.width -ℤ (x +ℤ e.second.extents.width)
    → k.after.sp ≡ z -ℤ (number_place z left e.number.extents.width +ℤ e.number.extents.width)
    → pack (equation_pieces k e) ≡ equation_row z x left e
equation_packed z x left k e a b c =
    let n = number_place z left e.number.extents.width in
    layout_eq
    (extents_eq
    (whole_width z x n k.before.sp k.between.sp k.after.sp e.first.extents.width e.second.extents.width e.number.extents.width a b c)
    (tallest e.first.extents.height e.second.extents.height e.number.extents.height)
    (deepest e.first.extents.depth e.second.extents.depth e.number.extents.depth))
    (three_boxes e.first.places e.second.places e.number.places
    (at_first x k.before.sp e.first.extents.width a)
    (at_second x k.before.sp e.first.extents.width a)
    (at_number x n k.before.sp k.between.sp e.first.extents.width e.second.extents.width a b))

greatest_of : (a b c : ℤ) → Within max_dimen a → Within max_dimen b → Within max_dimen c → Within max_dimen (int_max a (int_max b (int_max c (pos 0))))
greatest_of a b c h k l = record {
  low = omega (arith, ints, clamps, h.low, h.high, k.low, k.high, l.low, l.high);
  high = omega (arith, ints, clamps, h.low, h.high, k.low, k.high, l.low, l.high);
}

pub equation_in_range : (z x : ℤ) (left : Bool) (e : EquationLayout) → Within max_dimen z → AreInRange e → ExtentsInRange (equation_row z x left e).extents
equation_in_range z x left e w h = record {
  width = w;
  height = greatest_of e.first.extents.height e.second.extents.height e.number.extents.height h.first.height h.second.height h.number.height;
  depth = greatest_of e.first.extents.depth e.second.extents.depth e.number.extents.depth h.first.depth h.second.depth h.number.depth;
}

-- ---- a box of the same layout

pub box_is : (r : Result BoxValue PackError) (l m : Layout) → IfOk r (λ b. layout_of b ≡ l) → l ≡ m → IfOk r (λ b. layout_of b ≡ m)
box_is (Ok b) l m h e = h ∙ e
box_is (Err e) l m h f = tt
