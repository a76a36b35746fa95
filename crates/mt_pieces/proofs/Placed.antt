-- Places among pieces (`IsAt`): they stay when pieces are put behind the others.
use Rattle.std.proofs.Common.{◌≡◌, ◌+◌, ◌≤◌, List, [], ◌∷◌, ◌++◌, length, length-append, arith, sym, ◌∙◌, ap}
use Rattle.std.proofs.lemmas.List.{take-append-le}
use Rattle.mt_box.specs.Rows.{PieceValue, PieceGlyph, PieceBox, PieceKern, PieceSpace}
use Rattle.mt_pieces.specs.declared.runs.PieceAt.{PieceAt}
use Rattle.mt_pieces.specs.Runs.{IsAt, layers_of}

-- a place stays that of its piece
pub at_more : (at : PieceAt) (pieces more : List PieceValue) → IsAt at pieces → IsAt at (pieces ++ more)
at_more at pieces more h = record {
  within = omega (arith, h.within, length-append pieces more);
  layer = h.layer ∙ ap layers_of (sym (take-append-le at.piece pieces more h.within));
}

pub layers_more : (ms ns : List PieceValue) → layers_of (ms ++ ns) ≡ layers_of ms + layers_of ns
layers_more [] ns = omega arith
layers_more (PieceGlyph f c e ∷ ms) ns = omega (arith, layers_more ms ns)
layers_more (PieceBox r b ∷ ms) ns = omega (arith, layers_more ms ns)
layers_more (PieceKern k ∷ ms) ns = layers_more ms ns
layers_more (PieceSpace w s ∷ ms) ns = layers_more ms ns

pub layers_few : (ms : List PieceValue) → layers_of ms ≤ length ms
layers_few [] = omega arith
layers_few (PieceGlyph f c e ∷ ms) = omega (arith, layers_few ms)
layers_few (PieceBox r b ∷ ms) = omega (arith, layers_few ms)
layers_few (PieceKern k ∷ ms) = omega (arith, layers_few ms)
layers_few (PieceSpace w s ∷ ms) = omega (arith, layers_few ms)
