-- Columns that parts are made of, and the layouts at absolute offsets that they are.
use Rattle.std.proofs.Common.{◌≡◌, zero, suc, List, [], ◌∷◌, ◌++◌, ℤ, pos, negsuc, ◌+ℤ◌, ◌-ℤ◌, ◌≤ℤ◌, refl, arith, append_assoc, ap, sym, ◌∙◌}
use Rattle.std.proofs.lemmas.Int.{ints, clamps}
use Rattle.std.specs.Int.{int_max}
use Rattle.mt_box.specs.declared.place.Place.{Place}
use Rattle.mt_box.specs.Layout.{Layout, all_moved, rule_places}
use Rattle.mt_box.specs.Columns.{EntryValue, EntryBox, EntryKern, EntryRule, entry_width, entry_drop, entry_places, column_width, column_drop, column_places, stack}
use Rattle.mt_box.proofs.Moved.{moved_zero, moved_twice}
use Rattle.mt_box.proofs.Lists.{nil_right}
use Rattle.mt_box.proofs.Equalities.{extents_eq, layout_eq}

-- ---- a column of two parts

pub column_width-low : (es : List EntryValue) → pos 0 ≤ℤ column_width es
column_width-low [] = omega (arith, ints)
column_width-low (e ∷ es) = omega (arith, ints, clamps, column_width-low es)

max_assoc : (a b c d e : ℤ) → d ≡ int_max b c → e ≡ int_max a b → int_max a d ≡ int_max e c
max_assoc a b c d e p q = omega (arith, ints, clamps)

from_zero : (z : ℤ) → pos 0 ≤ℤ z → z ≡ int_max (pos 0) z
from_zero z h = omega (arith, ints, clamps)

pub column_width-append : (es fs : List EntryValue) → column_width (es ++ fs) ≡ int_max (column_width es) (column_width fs)
column_width-append [] fs = from_zero _ (column_width-low fs)
column_width-append (e ∷ es) fs = max_assoc (entry_width e) (column_width es) (column_width fs) (column_width (es ++ fs)) _ (column_width-append es fs) refl

sum_assoc : (a b c d : ℤ) → d ≡ b +ℤ c → a +ℤ d ≡ (a +ℤ b) +ℤ c
sum_assoc a b c d p = omega (arith, ints)

from_nothing : (z : ℤ) → z ≡ pos 0 +ℤ z
from_nothing z = omega (arith, ints)

pub column_drop-append : (es fs : List EntryValue) → column_drop (es ++ fs) ≡ column_drop es +ℤ column_drop fs
column_drop-append [] fs = from_nothing _
column_drop-append (e ∷ es) fs = sum_assoc (entry_drop e) (column_drop es) (column_drop fs) _ (column_drop-append es fs)

less_nothing : (y : ℤ) → y ≡ y -ℤ pos 0
less_nothing y = omega (arith, ints)

less_both : (y a b : ℤ) → (y -ℤ a) -ℤ b ≡ y -ℤ (a +ℤ b)
less_both y a b = omega (arith, ints)

pub column_places-append : (w y : ℤ) (es fs : List EntryValue) → column_places w y (es ++ fs) ≡ column_places w y es ++ column_places w (y -ℤ column_drop es) fs
column_places-append w y [] fs = ap (λ z. column_places w z fs) (less_nothing y)
column_places-append w y (e ∷ es) fs =
    ap (λ ps. entry_places w y e ++ ps)
    (column_places-append w (y -ℤ entry_drop e) es fs
    ∙ ap (λ z. column_places w (y -ℤ entry_drop e) es ++ column_places w z fs) (less_both y (entry_drop e) (column_drop es)))
    ∙ sym (append_assoc (entry_places w y e) (column_places w (y -ℤ entry_drop e) es) (column_places w (y -ℤ column_drop (e ∷ es)) fs))

-- ---- a box on the baseline, with entries above it and below it

depth_round : (a h d c t : ℤ) → t ≡ a +ℤ ((h +ℤ d) +ℤ c) → t -ℤ (a +ℤ h) ≡ d +ℤ c
depth_round a h d c t e = omega (arith, ints, e)

at_baseline : (w y z : ℤ) (b : Layout) (below : List EntryValue) → y ≡ pos 0 → z ≡ pos 0 -ℤ b.extents.depth → all_moved (pos 0) y b.places ++ column_places w z below ≡ b.places ++ column_places w (pos 0 -ℤ b.extents.depth) below
at_baseline w y z b below e f = rw (e, f, moved_zero b.places) refl

box_round : (w top a : ℤ) (b : Layout) (below : List EntryValue) → top ≡ a +ℤ b.extents.height → column_places w (top -ℤ a) (EntryBox (pos 0) b ∷ below) ≡ b.places ++ column_places w (pos 0 -ℤ b.extents.depth) below
box_round w top a b below e = at_baseline w ((top -ℤ a) -ℤ b.extents.height) ((top -ℤ a) -ℤ (b.extents.height +ℤ b.extents.depth)) b below (omega (arith, ints, e)) (omega (arith, ints, e))

pub stack_round : (above below : List EntryValue) (b : Layout) → stack (above ++ EntryBox (pos 0) b ∷ below) (column_drop above +ℤ b.extents.height) ≡ record {
  extents = record {
    width = column_width (above ++ EntryBox (pos 0) b ∷ below);
    height = column_drop above +ℤ b.extents.height;
    depth = b.extents.depth +ℤ column_drop below;
  };
  places = column_places (column_width (above ++ EntryBox (pos 0) b ∷ below)) (column_drop above +ℤ b.extents.height) above
      ++ (b.places ++ column_places (column_width (above ++ EntryBox (pos 0) b ∷ below)) (pos 0 -ℤ b.extents.depth) below);
}
stack_round above below b =
    let w = column_width (above ++ EntryBox (pos 0) b ∷ below) in
    let top = column_drop above +ℤ b.extents.height in
    layout_eq
    (extents_eq refl refl (depth_round (column_drop above) b.extents.height b.extents.depth (column_drop below) _ (column_drop-append above (EntryBox (pos 0) b ∷ below))))
    (column_places-append w top above (EntryBox (pos 0) b ∷ below)
    ∙ ap (λ ps. column_places w top above ++ ps) (box_round w top (column_drop above) b below refl))

-- ---- the places of a last box, and of what is above it

-- a last box that is at the reference point
pub last_box : (y : ℤ) (ps : List Place) → y ≡ pos 0 → all_moved (pos 0) y ps ++ [] ≡ ps
last_box y ps e = rw e (nil_right _ ∙ moved_zero ps)

pub box_and_last : (x y y' z : ℤ) (ps qs : List Place) → y ≡ y' → z ≡ pos 0 → all_moved x y ps ++ (all_moved (pos 0) z qs ++ []) ≡ all_moved x y' ps ++ qs
box_and_last x y y' z ps qs e f = rw (e, last_box z qs f) refl

-- a box that is alone at y, whose places were moved to the right by themselves
pub moved_box : (shift y y' : ℤ) (ps : List Place) → y ≡ y' → all_moved (pos 0) y (all_moved shift (pos 0) ps) ++ [] ≡ all_moved shift y' ps
moved_box shift y y' ps e =
    let right : shift +ℤ pos 0 ≡ shift = omega (arith, ints) in
    let up : pos 0 +ℤ y' ≡ y' = omega (arith, ints) in
    rw (e, nil_right _, moved_twice (pos 0) y' shift (pos 0) ps, right, up) refl

pub rule_and_last : (t y y' w w' z : ℤ) (ps : List Place) → y ≡ y' → w ≡ w' → z ≡ pos 0 → rule_places (pos 0) y t w ++ (all_moved (pos 0) z ps ++ []) ≡ rule_places (pos 0) y' t w' ++ ps
rule_and_last t y y' w w' z ps p q r = rw (p, q, last_box z ps r) refl

pub box_and_rule : (t y y' w w' z : ℤ) (ps : List Place) → y ≡ y' → w ≡ w' → z ≡ pos 0 → all_moved (pos 0) z ps ++ (rule_places (pos 0) y t w ++ []) ≡ ps ++ rule_places (pos 0) y' t w'
box_and_rule t y y' w w' z ps p q r = rw (p, q, r, nil_right _, moved_zero ps) refl

-- a rule of no positive width places nothing
pub rule_opened : (y t w : ℤ) → rule_places (pos 0) y t (int_max (pos 0) w) ≡ rule_places (pos 0) y t w
rule_opened y t (pos zero) = refl
rule_opened y t (pos (suc n)) =
    let e : int_max (pos 0) (pos (suc n)) ≡ pos (suc n) = omega (arith, ints, clamps) in
    ap (λ w. rule_places (pos 0) y t w) e
rule_opened y t (negsuc n) = refl

-- ---- a rule above a body, and a rule below it

-- space, a rule of thickness t and a gap over a body
pub rule_above : (space t gap top : ℤ) (b : Layout) → top ≡ b.extents.height +ℤ (gap +ℤ (t +ℤ space)) → stack (EntryKern space ∷ EntryRule t ∷ EntryKern gap ∷ EntryBox (pos 0) b ∷ []) top ≡ record {
  extents = record { width = int_max (pos 0) b.extents.width; height = top; depth = b.extents.depth };
  places = rule_places (pos 0) (b.extents.height +ℤ gap) t (int_max (pos 0) b.extents.width) ++ b.places;
}
rule_above space t gap top b e =
    layout_eq
    (extents_eq (omega (arith, ints, clamps)) refl (omega (arith, ints, e)))
    (rule_and_last t (top -ℤ space -ℤ t) (b.extents.height +ℤ gap)
    (int_max (pos 0) (int_max (pos 0) (int_max (pos 0) (int_max (b.extents.width +ℤ pos 0) (pos 0))))) (int_max (pos 0) b.extents.width)
    (top -ℤ space -ℤ t -ℤ gap -ℤ b.extents.height) b.places
    (omega (arith, ints, e)) (omega (arith, ints, clamps)) (omega (arith, ints, e)))

-- a body over a gap, a rule of thickness t and space
pub rule_below : (gap t space : ℤ) (b : Layout) → stack (EntryBox (pos 0) b ∷ EntryKern gap ∷ EntryRule t ∷ EntryKern space ∷ []) b.extents.height ≡ record {
  extents = record {
    width = int_max (pos 0) b.extents.width;
    height = b.extents.height;
    depth = b.extents.depth +ℤ (gap +ℤ (t +ℤ space));
  };
  places = b.places ++ rule_places (pos 0) (pos 0 -ℤ (b.extents.depth +ℤ (gap +ℤ t))) t (int_max (pos 0) b.extents.width);
}
rule_below gap t space b =
    layout_eq
    (extents_eq (omega (arith, ints, clamps)) refl (omega (arith, ints)))
    (box_and_rule t (b.extents.height -ℤ (b.extents.height +ℤ b.extents.depth) -ℤ gap -ℤ t) (pos 0 -ℤ (b.extents.depth +ℤ (gap +ℤ t)))
    (int_max (b.extents.width +ℤ pos 0) (int_max (pos 0) (int_max (pos 0) (int_max (pos 0) (pos 0))))) (int_max (pos 0) b.extents.width)
    (b.extents.height -ℤ b.extents.height) b.places
    (omega (arith, ints)) (omega (arith, ints, clamps)) (omega (arith, ints)))
