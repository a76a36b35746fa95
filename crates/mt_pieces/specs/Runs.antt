-- Places among pieces, from which runs are copied (`IsAt`).
use Rattle.std.specs.Prelude.{◌≡◌, ◌≤◌, ℕ, suc, List, [], ◌∷◌, length, take}
use Rattle.mt_box.specs.Rows.{PieceValue, PieceGlyph, PieceBox, PieceKern, PieceSpace}
use Rattle.mt_pieces.specs.declared.runs.PieceAt.{PieceAt}

-- how many layers pieces have: one for each character and each box
abbrev pub layers_of : List PieceValue → ℕ
layers_of [] = 0
layers_of (PieceGlyph f c e ∷ ms) = suc (layers_of ms)
layers_of (PieceBox r b ∷ ms) = suc (layers_of ms)
layers_of (PieceKern k ∷ ms) = layers_of ms
layers_of (PieceSpace w s ∷ ms) = layers_of ms

-- the place of one of these pieces, or behind all of them
pub record IsAt (at : PieceAt) (pieces : List PieceValue) : Type 0 where
  pub within : at.piece ≤ length pieces
  pub layer : at.layer ≡ layers_of (take at.piece pieces)
