-- The row of an atom alone stays as it is (`lone_row`).
use Rattle.std.proofs.Common.{◌≡◌, ℕ, ℤ, List, [], ◌∷◌, length, take, drop, ap, sym, ◌∙◌, arith, true, append-nil, Ok}
use Rattle.mt_convert.proofs.Common.{take_all, Size, SetValue, PieceValue, Style, PlacedItem, opening, all_pieces, RowOn}
use Rattle.std.proofs.lemmas.List.{take-append-drop}
use Rattle.mt_pieces.specs.declared.items.PlacedItem.TheVariants as placed
use Rattle.mt_convert.specs.inner.LoneAtoms.{is_set_atom, is_lone_atom}
use Rattle.mt_convert.specs.inner.Placed.{placed_values, placed_length, placed_count}

atom_row : (fonts : SetValue) (size : Size) (wanted : ℤ) (style : Style) (h : PlacedItem) (row : List PieceValue) → is_set_atom h ≡ true → placed_length h ≡ length row
    → all_pieces fonts size wanted (opening style) (placed_values (h ∷ []) row) ≡ Ok row
atom_row fonts size wanted style (placed.Set c n) row t e = ap (λ r. Ok r) (append-nil (take n row) ∙ take_all n row (omega (arith, e)))
atom_row fonts size wanted style _ row t e = absurd (cc)

lone_pieces : (fonts : SetValue) (size : Size) (wanted : ℤ) (style : Style) (items : List PlacedItem) (row : List PieceValue) → is_lone_atom items ≡ true → placed_count items ≡ length row
    → all_pieces fonts size wanted (opening style) (placed_values items row) ≡ Ok row
lone_pieces fonts size wanted style [] row t e = absurd (cc)
lone_pieces fonts size wanted style (h ∷ []) row t e = atom_row fonts size wanted style h row t (omega (arith, e))
lone_pieces fonts size wanted style (h ∷ k ∷ hs) row t e = absurd (cc)

pub lone_row : (fonts : SetValue) (size : Size) (wanted : ℤ) (style : Style) (items : List PlacedItem) (first : ℕ) (old : List PieceValue) → is_lone_atom items ≡ true → placed_count items ≡ length (drop first old)
    → RowOn (take first old) old (all_pieces fonts size wanted (opening style) (placed_values items (drop first old)))
lone_row fonts size wanted style items first old t e = record {
  row = drop first old;
  is = lone_pieces fonts size wanted style items (drop first old) t e;
  stays = sym (take-append-drop first old);
}
