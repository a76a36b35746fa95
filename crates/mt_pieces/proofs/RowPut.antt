-- A row put piece by piece.
use Rattle.std.proofs.Common.{◌≡◌, List, [], ◌∷◌, ◌++◌, append_assoc, append-nil, ap, sym, ◌∙◌, refl, subst}
use Rattle.mt_box.specs.declared.piece.Piece.{Piece}
use Rattle.mt_box.specs.Rows.{PieceValue, piece_value, piece_values, AllMeasurable}

pub record RowPut (old : List PieceValue) (whole rest : List Piece) (now : List PieceValue) : Type 0 where
  pub is : old ++ piece_values whole ≡ now ++ piece_values rest
  pub measurable : AllMeasurable rest

pub row_start : (old : List PieceValue) (whole rest : List Piece) → rest ≡ whole → AllMeasurable whole → RowPut old whole rest old
row_start old whole rest e m = rw e (record { is = refl; measurable = m })

pub row_step : (old : List PieceValue) (whole rest : List Piece) (now now' : List PieceValue) (p : Piece) (rest' : List Piece) → RowPut old whole rest now → rest ≡ p ∷ rest' → now' ≡ now ++ piece_value p ∷ [] → RowPut old whole rest' now'
row_step old whole rest now now' p rest' s e f = rw f (record {
  is = s.is ∙ (ap (λ r. now ++ piece_values r) e ∙ sym (append_assoc now (piece_value p ∷ []) (piece_values rest')));
  measurable = (subst AllMeasurable e s.measurable).1;
})

pub row_end : (old : List PieceValue) (whole rest : List Piece) (now : List PieceValue) → RowPut old whole rest now → rest ≡ [] → now ≡ old ++ piece_values whole
row_end old whole rest now s e = sym (s.is ∙ (ap (λ r. now ++ piece_values r) e ∙ append-nil now))
