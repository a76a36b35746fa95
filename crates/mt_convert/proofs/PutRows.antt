-- The rows of a list between the passes put on a stack, item by item (`ItemsPut`).
use Rattle.std.proofs.Common.{◌≡◌, ℕ, ◌+◌, ◌^◌, List, [], ◌∷◌, ◌++◌, length, ap, sym, ◌∙◌, refl, arith, subst, append_assoc, length-append}
use Rattle.mt_convert.proofs.Common.{take_all, Piece, PieceValue, piece_values, Class, PlacedItem, HalfAtom, half_value, half_values, HalvesFit, total_of}
use Rattle.mt_convert.specs.declared.half.Half.{Half}
use Rattle.mt_convert.specs.declared.half.Half.TheVariants as half
use Rattle.mt_pieces.specs.declared.items.PlacedItem.TheVariants as placed
use Rattle.mt_convert.specs.inner.Placed.{placed_value, placed_values, placed_count, AllPlacedFit}
use Rattle.mt_convert.specs.inner.Put.{IsPut}
use Rattle.mt_convert.proofs.PlacedValues.{values_append, count_append, fits_append}

-- ---- an item

pub values_length : (ps : List Piece) → length (piece_values ps) ≡ length ps
values_length [] = refl
values_length (p ∷ ps) = omega (arith, values_length ps)

pub atom_put : (class : Class) (count : ℕ) (row : List Piece) (old new : List PieceValue) → count ≡ length row → new ≡ old ++ piece_values row → IsPut (placed.Set class count) (half.Set class row) old new
atom_put class count row old new e f = record {
  row = piece_values row;
  stays = f;
  is = ap (λ r. HalfAtom class r) (take_all count (piece_values row) (omega (arith, e, values_length row)));
  length_is = e ∙ sym (values_length row);
  count = values_length row;
  fits = tt;
}

-- ---- items in order

pub record ItemsPut (whole rest : List Half) (done : List PlacedItem) (old now : List PieceValue) : Type 0 where
  pub row : List PieceValue
  pub stays : now ≡ old ++ row
  pub are : placed_values done row ++ half_values rest ≡ half_values whole
  pub few : length done + length rest ≡ length whole
  pub count : placed_count done ≡ length row
  pub total : length row + total_of rest ≡ total_of whole
  pub fit : AllPlacedFit done
  pub rest_fit : HalvesFit (2 ^ 16) rest

pub items_step : (whole rest : List Half) (done done' : List PlacedItem) (old now now' : List PieceValue) (h : Half) (rest' : List Half) (p : PlacedItem) → ItemsPut whole rest done old now → rest ≡ h ∷ rest' → IsPut p h now now' → done' ≡ done ++ p ∷ []
    → ItemsPut whole rest' done' old now'
items_step whole rest done done' old now now' h rest' p s e k f =
    let one : placed_value p k.row ≡ half_value h = k.is in
    rw f (record {
      row = s.row ++ k.row;
      stays = k.stays ∙ (ap (λ x. x ++ k.row) s.stays ∙ append_assoc old s.row k.row);
      are =
          ap (λ x. x ++ half_values rest') (values_append done (p ∷ []) s.row k.row s.count ∙ ap (λ v. placed_values done s.row ++ v ∷ []) one)
          ∙ (append_assoc (placed_values done s.row) (half_value h ∷ []) (half_values rest')
          ∙ (ap (λ r. placed_values done s.row ++ half_values r) (sym e) ∙ s.are));
      few = omega (arith, s.few, ap length e, length-append done (p ∷ []));
      count = omega (arith, count_append done (p ∷ []), s.count, k.length_is, length-append s.row k.row);
      total = omega (arith, s.total, ap total_of e, k.count, length-append s.row k.row);
      fit = fits_append done (p ∷ []) s.fit (k.fits, tt);
      rest_fit = (subst (HalvesFit (2 ^ 16)) e s.rest_fit).1;
    })
