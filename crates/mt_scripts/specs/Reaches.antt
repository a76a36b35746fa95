-- Bounds on the heights and depths of boxes and rows.
use Rattle.std.specs.Prelude.{ℕ, List, Option}
use Rattle.std.specs.Option.{ForSome}
use Rattle.mt_scaled.specs.Number.{Within}
use Rattle.mt_box.specs.declared.extents.Extents.{Extents}
use Rattle.mt_box.specs.declared.piece.Piece.{Piece}
use Rattle.mt_box.specs.Rows.{piece_values, pack}

-- the height and the depth are at most n in size
pub record ReachesWithin (n : ℕ) (e : Extents) : Type 0 where
  pub height : Within n e.height
  pub depth : Within n e.depth

-- those of a nucleus and of its scripts
pub record AllReachWithin (n : ℕ) (e : Extents) (above below : Option Extents) : Type 0 where
  pub nucleus : ReachesWithin n e
  pub sup : ForSome above (λ s. ReachesWithin n s)
  pub sub : ForSome below (λ s. ReachesWithin n s)

-- those of a row when it is packed
abbrev pub RowReachesWithin : ℕ → List Piece → Type 0
RowReachesWithin n row = ReachesWithin n (pack (piece_values row)).extents
