-- The last parts taken off, where they are boxes. Parts are taken from the last one, and layouts from the top one.
use Rattle.std.specs.Prelude.{◌≡◌, ◌+ℤ◌, ◌-ℤ◌, ◌^◌, List, [], ◌∷◌, Option, Some, None, Result, Ok, Err, ⊤}
use Rattle.std.specs.Int.{int_max}
use Rattle.mt_scaled.specs.Number.{Within}
use Rattle.mt_box.specs.declared.place.Place.{Place}
use Rattle.mt_box.specs.declared.extents.Extents.{Extents}
use Rattle.mt_box.specs.declared.piece.Piece.{Piece}
use Rattle.mt_box.specs.declared.piece.Piece.TheVariants as piece
use Rattle.mt_box.specs.declared.marks.row.RowPiece.{RowPiece}
use Rattle.mt_box.specs.declared.marks.row.RowPart.{RowPart}
use Rattle.mt_box.specs.declared.marks.row.RowPart.TheVariants as part
use Rattle.mt_box.specs.Rows.{PieceValue}
use Rattle.mt_box.specs.marks.Layers.{top}
use Rattle.mt_box.specs.marks.RowParts.{IsNearPart, part_height, part_depth}
use Rattle.mt_box.specs.declared.error.PackError.{PackError}
use Rattle.mt_box.specs.declared.error.PackError.TheVariants.{Overflow as PackOverflow, OutOfMemory as NoPackMemory}
use Rattle.mt_rules.specs.OnMarks.{RowSetsOn}
use Rattle.mt_rules.specs.Setting.{Setting, ◌>>=◌, Overflow, make_row}

-- behind a box, if it is there
abbrev pub part_if : Option RowPiece → List RowPart → List RowPart
part_if None ps = ps
part_if (Some p) ps = part.Layout p ∷ ps

-- under the layer of a box, if it is there
abbrev pub layer_if : Option RowPiece → List Place → List (List Place) → List (List Place)
layer_if None l ls = ls
layer_if (Some p) l ls = l ∷ ls

abbrev pub extents_if : Option RowPiece → Option Extents
extents_if None = None
extents_if (Some p) = Some p.extents

-- the box that scripts are made, if there are any: its layer is on top of the others
abbrev pub AttachesOn : List PieceValue → Result (Option RowPiece) PackError → List Place → Setting (List PieceValue) → Type 0
AttachesOn row (Ok None) ps setting = setting ≡ Ok row
AttachesOn row (Ok (Some p)) ps setting = RowSetsOn row (Ok p) ps setting
AttachesOn row (Err (PackOverflow value)) ps setting = setting ≡ Err (Overflow value)
AttachesOn row (Err NoPackMemory) ps setting = ⊤

abbrev pub StandsOn : Result (Option RowPiece) PackError → List (List Place) → List (List Place) → Type 0
StandsOn (Ok o) ms rest = ms ≡ layer_if o (top ms) rest
StandsOn (Err e) ms rest = ⊤

-- a box of level 1, or no box
abbrev pub IsFirstLevel : Piece → Type 0
IsFirstLevel (piece.Glyph f c e) = ⊤
IsFirstLevel (piece.Boxed r b) = b.level ≡ 1
IsFirstLevel (piece.Kern k) = ⊤
IsFirstLevel (piece.Space w s) = ⊤

-- ---- numbers

-- a part that is near, and reaches no further than this up and down
pub record IsKept (p : RowPart) : Type 0 where
  pub near : IsNearPart p
  pub height : Within (2 ^ 41) (part_height p)
  pub depth : Within (2 ^ 41) (part_depth p)

abbrev pub AllKept : List RowPart → Type 0
AllKept [] = ⊤
AllKept (p ∷ ps) = IsKept p × AllKept ps

-- what a row reaches with a box after it
abbrev pub reach_beside : Extents → RowPiece → Extents
reach_beside row p = record {
  width = row.width +ℤ p.extents.width;
  height = int_max row.height (p.extents.height +ℤ p.raise);
  depth = int_max row.depth (p.extents.depth -ℤ p.raise);
}

abbrev pub reach_with : Extents → Option RowPiece → Extents
reach_with row None = row
reach_with row (Some p) = reach_beside row p

-- the row is tested
abbrev pub tested_row : Setting (List PieceValue) → Setting (List PieceValue)
tested_row setting = do
  row ← setting
  make_row row
