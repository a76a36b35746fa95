-- Parts of a row: layouts one on another, and gaps between them.
use Rattle.std.specs.Prelude.{◌≡◌, ℤ, pos, ◌+ℤ◌, ◌-ℤ◌, ◌^◌, List, [], ◌∷◌, Option, Some, None, ⊤}
use Rattle.std.specs.Int.{int_max}
use Rattle.mt_scaled.specs.Number.{Within}
use Rattle.mt_box.specs.declared.place.Place.{Place}
use Rattle.mt_box.specs.declared.extents.Extents.{Extents}
use Rattle.mt_box.specs.Layout.{all_moved}
use Rattle.mt_box.specs.Rows.{PieceValue, piece_width, piece_height, piece_depth, piece_places}
use Rattle.mt_box.specs.declared.marks.row.RowPiece.{RowPiece}
use Rattle.mt_box.specs.declared.marks.row.RowPart.{RowPart}
use Rattle.mt_box.specs.declared.marks.row.RowPart.TheVariants as part
use Rattle.mt_box.specs.SetRows.{shrunk}
use Rattle.mt_box.specs.marks.Layers.{joined, moved_layer}

-- this piece reaches so far, and its places are these
pub record IsPieceOf (m : PieceValue) (p : RowPiece) (l : List Place) : Type 0 where
  pub width : p.extents.width ≡ piece_width m
  pub height : p.extents.height +ℤ p.raise ≡ piece_height m
  pub depth : p.extents.depth -ℤ p.raise ≡ piece_depth m
  pub places : (x : ℤ) → all_moved x p.raise l ≡ piece_places x m

-- a character's layout, which is not raised
abbrev pub glyph_piece : Extents → RowPiece
glyph_piece e = record { extents = e; raise = pos 0 }

-- this piece is as wide and places nothing
pub record IsGapOf (m : PieceValue) (w : ℤ) : Type 0 where
  pub width : w ≡ piece_width m
  pub height : pos 0 ≡ piece_height m
  pub depth : pos 0 ≡ piece_depth m
  pub places : (x : ℤ) → piece_places x m ≡ []

abbrev pub AreParts : List PieceValue → List RowPart → List (List Place) → Type 0
AreParts [] [] [] = ⊤
AreParts [] [] (l ∷ ls) = ⊥
AreParts [] (p ∷ ps) ls = ⊥
AreParts (m ∷ ms) [] ls = ⊥
AreParts (m ∷ ms) (part.Glyph f c e ∷ ps) [] = ⊥
AreParts (m ∷ ms) (part.Glyph f c e ∷ ps) (l ∷ ls) = IsPieceOf m (glyph_piece e) l × AreParts ms ps ls
AreParts (m ∷ ms) (part.Layout p ∷ ps) [] = ⊥
AreParts (m ∷ ms) (part.Layout p ∷ ps) (l ∷ ls) = IsPieceOf m p l × AreParts ms ps ls
AreParts (m ∷ ms) (part.Gap w ∷ ps) ls = IsGapOf m w × AreParts ms ps ls
AreParts (m ∷ ms) (part.Space w s ∷ ps) ls = IsGapOf m w × AreParts ms ps ls

-- layouts, the first of which is the lowest, on others
abbrev pub on_stack : List (List Place) → List (List Place) → List (List Place)
on_stack [] rest = rest
on_stack (l ∷ ls) rest = on_stack ls (l ∷ rest)

pub record IsNear (p : RowPiece) : Type 0 where
  pub width : Within (2 ^ 40) p.extents.width
  pub height : Within (2 ^ 48) p.extents.height
  pub depth : Within (2 ^ 48) p.extents.depth
  pub raise : Within (2 ^ 48) p.raise

abbrev pub IsNearPart : RowPart → Type 0
IsNearPart (part.Glyph f c e) = IsNear (glyph_piece e)
IsNearPart (part.Layout p) = IsNear p
IsNearPart (part.Gap w) = Within (2 ^ 40) w
IsNearPart (part.Space w s) = Within (2 ^ 40) w × Within (2 ^ 40) s

abbrev pub AllNearParts : List RowPart → Type 0
AllNearParts [] = ⊤
AllNearParts (p ∷ ps) = IsNearPart p × AllNearParts ps

-- the layout of a part that has one
abbrev pub part_piece : RowPart → Option RowPiece
part_piece (part.Glyph f c e) = Some (glyph_piece e)
part_piece (part.Layout p) = Some p
part_piece (part.Gap w) = None
part_piece (part.Space w s) = None

abbrev pub part_width : RowPart → ℤ
part_width (part.Glyph f c e) = e.width
part_width (part.Layout p) = p.extents.width
part_width (part.Gap w) = w
part_width (part.Space w s) = w

abbrev pub part_height : RowPart → ℤ
part_height (part.Glyph f c e) = e.height +ℤ pos 0
part_height (part.Layout p) = p.extents.height +ℤ p.raise
part_height (part.Gap w) = pos 0
part_height (part.Space w s) = pos 0

abbrev pub part_depth : RowPart → ℤ
part_depth (part.Glyph f c e) = e.depth -ℤ pos 0
part_depth (part.Layout p) = p.extents.depth -ℤ p.raise
part_depth (part.Gap w) = pos 0
part_depth (part.Space w s) = pos 0

-- by how much a part may shrink
abbrev pub part_shrink : RowPart → ℤ
part_shrink (part.Glyph f c e) = pos 0
part_shrink (part.Layout p) = pos 0
part_shrink (part.Gap w) = pos 0
part_shrink (part.Space w s) = s

-- the sum of what each part has, and the greatest of that and of 0
abbrev pub parts_sum : (RowPart → ℤ) → List RowPart → ℤ
parts_sum f [] = pos 0
parts_sum f (p ∷ ps) = f p +ℤ parts_sum f ps

abbrev pub parts_max : (RowPart → ℤ) → List RowPart → ℤ
parts_max f [] = pos 0
parts_max f (p ∷ ps) = int_max (f p) (parts_max f ps)

-- a part put in front of the top one, at x
abbrev pub part_joined : ℤ → RowPart → List (List Place) → List (List Place)
part_joined x (part.Glyph f c e) ls = joined (moved_layer 1 x (pos 0) ls)
part_joined x (part.Layout p) ls = joined (moved_layer 1 x p.raise ls)
part_joined x (part.Gap w) ls = ls
part_joined x (part.Space w s) ls = ls

-- the top one behind the parts, each layout moved to its place, after spaces that shrink (`shrunk`); without that the
-- first part begins at x, after spaces that may shrink by `before`
abbrev pub parts_joined : ℤ → ℤ → ℤ → ℤ → List RowPart → List (List Place) → List (List Place)
parts_joined most used x before [] ls = ls
parts_joined most used x before (p ∷ ps) ls =
    part_joined (x -ℤ shrunk most used before) p (parts_joined most used (x +ℤ part_width p) (before +ℤ part_shrink p) ps ls)
