-- The part and the layout of each piece of a row.
use Rattle.std.specs.Prelude.{pos, List, [], ◌∷◌, ◌++◌, ⊤}
use Rattle.mt_box.specs.declared.place.Place.{Place}
use Rattle.mt_box.specs.declared.place.Place.TheVariants.{Glyph}
use Rattle.mt_box.specs.declared.piece.Piece.{Piece}
use Rattle.mt_box.specs.declared.piece.Piece.TheVariants as piece
use Rattle.mt_box.specs.declared.marks.row.RowPart.{RowPart}
use Rattle.mt_box.specs.declared.marks.row.RowPart.TheVariants as part
use Rattle.mt_box.specs.Extents.{ExtentsInRange}

abbrev pub part_of : Piece → RowPart
part_of (piece.Glyph f c e) = part.Glyph f c e
part_of (piece.Boxed r b) = part.Layout (record { extents = b.extents; raise = r })
part_of (piece.Kern k) = part.Gap k
part_of (piece.Space w s) = part.Space w s

-- a kern and a space have none
abbrev pub piece_layouts : Piece → List (List Place)
piece_layouts (piece.Glyph f c e) = (Glyph f c (pos 0) (pos 0) ∷ []) ∷ []
piece_layouts (piece.Boxed r b) = b.places ∷ []
piece_layouts (piece.Kern k) = []
piece_layouts (piece.Space w s) = []

abbrev pub row_layouts : List Piece → List (List Place)
row_layouts [] = []
row_layouts (p ∷ ps) = piece_layouts p ++ row_layouts ps

-- the extents of a box are in range
abbrev pub IsPartInRange : RowPart → Type 0
IsPartInRange (part.Glyph f c e) = ⊤
IsPartInRange (part.Layout p) = ExtentsInRange p.extents
IsPartInRange (part.Gap w) = ⊤
IsPartInRange (part.Space w s) = ⊤
