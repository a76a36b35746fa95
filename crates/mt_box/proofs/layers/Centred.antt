-- A layout in the middle of a width, among others.
use Rattle.std.proofs.Common.{◌≡◌, ℕ, zero, suc, List, [], ◌∷◌, ℤ, pos, ◌-ℤ◌, Bool, true, false, if◌then◌else◌, refl, arith, sym, ap, int_eq}
use Rattle.std.proofs.lemmas.Int.{ints, clamps}
use Rattle.std.specs.Int.{int_max}
use Rattle.mt_scaled.specs.Number.{Within, half_of, max_dimen}
use Rattle.mt_box.specs.declared.place.Place.{Place}
use Rattle.mt_box.specs.declared.extents.Extents.{Extents}
use Rattle.mt_box.specs.Extents.{ExtentsInRange}
use Rattle.mt_box.specs.Layout.{Layout, all_moved}
use Rattle.mt_box.specs.Boxes.{rebox}
use Rattle.mt_box.specs.marks.Layers.{moved_layer}
use Rattle.mt_box.specs.marks.Recentred.{recentred_extents, recentred_places, recentred_layer}

pub still_layer : (n : ℕ) (e : Extents) (width : ℤ) (ls : List (List Place)) → int_eq e.width width ≡ true → ls ≡ recentred_layer n e width ls
still_layer n e width [] h = refl
still_layer zero e width (l ∷ ls) h = sym (ap (λ b. (if b then l else all_moved (half_of (width -ℤ e.width)) (pos 0) l) ∷ ls) h)
still_layer (suc n) e width (l ∷ ls) h = ap (λ r. l ∷ r) (still_layer n e width ls h)

pub inset_layer : (n : ℕ) (e : Extents) (width : ℤ) (ls : List (List Place)) → int_eq e.width width ≡ false → moved_layer n (half_of (width -ℤ e.width)) (pos 0) ls ≡ recentred_layer n e width ls
inset_layer n e width [] h = refl
inset_layer zero e width (l ∷ ls) h = sym (ap (λ b. (if b then l else all_moved (half_of (width -ℤ e.width)) (pos 0) l) ∷ ls) h)
inset_layer (suc n) e width (l ∷ ls) h = ap (λ r. l ∷ r) (inset_layer n e width ls h)

pub wider_in_range : (e f : Extents) (width : ℤ) → ExtentsInRange e → Within max_dimen width → f.width ≡ width → f.height ≡ int_max (pos 0) e.height → f.depth ≡ int_max (pos 0) e.depth → ExtentsInRange f
wider_in_range e f width h w p q r = record {
  width = record { low = omega (arith, ints, w.low, p); high = omega (arith, ints, w.high, p) };
  height = record { low = omega (arith, ints, clamps, h.height.low, q); high = omega (arith, ints, clamps, h.height.high, q) };
  depth = record { low = omega (arith, ints, clamps, h.depth.low, r); high = omega (arith, ints, clamps, h.depth.high, r) };
}

-- it is the layout in the middle of the width
pub recentred_is : (e : Extents) (width : ℤ) (ps : List Place) → (let l : Layout = record { extents = recentred_extents e width; places = recentred_places e width ps } in l) ≡ rebox record { extents = e; places = ps } width
recentred_is e width ps = by_width (int_eq e.width width)
  where
    by_width : (b : Bool)
        → (let l : Layout = record {
          extents = if b then e else record { width = width; height = int_max (pos 0) e.height; depth = int_max (pos 0) e.depth };
          places = if b then ps else all_moved (half_of (width -ℤ e.width)) (pos 0) ps;
        } in l) ≡ (if b then record { extents = e; places = ps } else record {
          extents = record { width = width; height = int_max (pos 0) e.height; depth = int_max (pos 0) e.depth };
          places = all_moved (half_of (width -ℤ e.width)) (pos 0) ps;
        })
    by_width true = refl
    by_width false = refl
