-- The box of a character and a kern after it: its mark is that of the character.
use Rattle.std.proofs.Common.{◌≡◌, ℕ, ℤ, pos, List, [], ◌∷◌, Result, Ok, Err, None, sym, ◌∙◌, ap, subst}
use Rattle.mt_box.specs.declared.place.Place.{Place}
use Rattle.mt_box.specs.declared.place.Place.TheVariants.{Glyph}
use Rattle.mt_box.specs.declared.extents.Extents.{Extents}
use Rattle.mt_box.specs.declared.error.PackError.{PackError}
use Rattle.mt_box.specs.declared.error.PackError.TheVariants.{Overflow as PackOverflow, OutOfMemory as NoPackMemory}
use Rattle.mt_box.specs.Extents.{first_out}
use Rattle.mt_box.specs.Layout.{Layout}
use Rattle.mt_box.specs.Rows.{PieceGlyph, PieceKern, pack, row_width, row_height, row_depth}
use Rattle.mt_box.specs.marks.Layers.{top}
use Rattle.mt_rules.specs.OnMarks.{BoxSetsOn, ExtentsTested, layout_with}
use Rattle.mt_rules.specs.Setting.{◌>>◌, make_box, pack_row, pass_unless}

tested_box : (made : Result Extents PackError) (e : Extents) (l : Layout) → ExtentsTested e made → e ≡ l.extents → BoxSetsOn made l.places (make_box l)
tested_box (Ok x) e l t q =
    ap (λ o. pass_unless o >> Ok l) (sym (ap first_out q) ∙ t.1) ∙ ap (λ z. Ok (layout_with z l.places)) (sym (t.0 ∙ q))
tested_box (Err (PackOverflow v)) e l t q = ap (λ o. pass_unless o >> Ok l) (sym (ap first_out q) ∙ t)
tested_box (Err NoPackMemory) e l t q = tt

pub glyph_packed : (made : Result Extents PackError) (f c : ℕ) (e x : Extents) (k : ℤ) (old new : List (List Place)) → new ≡ (Glyph f c (pos 0) (pos 0) ∷ []) ∷ old
    → x.width ≡ row_width (PieceGlyph f c e ∷ PieceKern k ∷ []) → x.height ≡ row_height (PieceGlyph f c e ∷ PieceKern k ∷ []) → x.depth ≡ row_depth (PieceGlyph f c e ∷ PieceKern k ∷ [])
    → ExtentsTested x made → BoxSetsOn made (top new) (pack_row (PieceGlyph f c e ∷ PieceKern k ∷ []))
glyph_packed made f c e x k old new n w h d t =
    subst (λ l. BoxSetsOn made l (pack_row (PieceGlyph f c e ∷ PieceKern k ∷ []))) (sym (ap top n))
    (tested_box made x (pack (PieceGlyph f c e ∷ PieceKern k ∷ [])) t (λ i. record { width = w i; height = h i; depth = d i }))
