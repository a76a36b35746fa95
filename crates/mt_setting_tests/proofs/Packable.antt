-- Rows whose levels are small enough for a packer.
use Rattle.std.proofs.Common.{ℕ, ◌<◌, ◌≤◌, ◌^◌, List, [], ◌∷◌, arith}
use Rattle.mt_box.specs.declared.piece.Piece.{Piece}
use Rattle.mt_box.specs.declared.piece.Piece.TheVariants.{Glyph, Boxed, Kern, Space}
use Rattle.mt_box.specs.Rows.{IsMeasurable, IsModest, AllModest, level_of_piece}
use Rattle.mt_convert.specs.Halfway.{RowFits}

modest_piece : (p : Piece) (n : ℕ) → n < 2 ^ 20 → level_of_piece p ≤ n → IsMeasurable p → IsModest p
modest_piece (Glyph f c e) n lt le k = k
modest_piece (Boxed r b) n lt le k = (k, omega (arith, le, lt))
modest_piece (Kern x) n lt le k = k
modest_piece (Space w s) n lt le k = k

pub row_is_modest : (row : List Piece) (n : ℕ) → n < 2 ^ 20 → RowFits n row → AllModest row
row_is_modest [] n lt h = tt
row_is_modest (p ∷ ps) n lt h =
    (modest_piece p n lt (omega (arith, h.level)) h.measurable.0, row_is_modest ps n lt (record { measurable = h.measurable.1; level = omega (arith, h.level) }))
