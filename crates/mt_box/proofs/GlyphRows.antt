-- The row of a glyph and of a kern after it, and that of a kern alone.
use Rattle.std.proofs.Common.{◌≡◌, ℕ, ℤ, pos, ◌+ℤ◌, List, [], ◌∷◌, refl, arith}
use Rattle.std.specs.Int.{int_max}
use Rattle.std.proofs.lemmas.Int.{ints, clamps}
use Rattle.mt_box.specs.declared.extents.Extents.{Extents}
use Rattle.mt_box.specs.Boxes.{glyph_layout}
use Rattle.mt_box.specs.Layout.{Layout}
use Rattle.mt_box.specs.Rows.{PieceGlyph, PieceKern, pack}
use Rattle.mt_box.specs.declared.place.Place.{Place}
use Rattle.mt_box.proofs.Equalities.{extents_is, layout_eq}

wide : (w k a : ℤ) → a ≡ w +ℤ k → a ≡ w +ℤ (k +ℤ pos 0)
wide w k a e = omega (arith, ints)

clamped : (h a : ℤ) → a ≡ int_max (pos 0) h → a ≡ int_max h (int_max (pos 0) (pos 0))
clamped h a e = omega (arith, ints, clamps)

pub glyph_with_kern : (font code : ℕ) (e x : Extents) (k : ℤ) → x.width ≡ e.width +ℤ k → x.height ≡ int_max (pos 0) e.height → x.depth ≡ int_max (pos 0) e.depth
    → glyph_layout font code x ≡ pack (PieceGlyph font code e ∷ PieceKern k ∷ [])
glyph_with_kern font code e x k w h d =
    layout_eq (extents_is x _ _ _ (wide e.width k x.width w) (clamped e.height x.height h) (clamped e.depth x.depth d)) refl

alone : (k a : ℤ) → a ≡ k → a ≡ k +ℤ pos 0
alone k a e = omega (arith, ints)

pub kern_alone : (x : Extents) (ps : List Place) (k : ℤ) → x.width ≡ k → x.height ≡ pos 0 → x.depth ≡ pos 0 → ps ≡ []
    → (let p : Layout = record { extents = x; places = ps } in p) ≡ pack (PieceKern k ∷ [])
kern_alone x ps k w h d e = layout_eq (extents_is x _ _ _ (alone k x.width w) h d) e
