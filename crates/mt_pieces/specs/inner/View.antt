-- What the fields of `Pieces` are seen as, and what holds of them. Parts are taken from the last one, and layouts from the top one.
use Rattle.std.specs.Prelude.{◌≡◌, ℕ, ℤ, pos, ◌^◌, List, [], ◌∷◌, ◌++◌, reverse}
use Rattle.mt_scaled.specs.Number.{Within}
use Rattle.mt_box.specs.declared.place.Place.{Place}
use Rattle.mt_box.specs.declared.place.Place.TheVariants.{Glyph}
use Rattle.mt_box.specs.declared.extents.Extents.{Extents}
use Rattle.mt_box.specs.declared.marks.row.RowPiece.{RowPiece}
use Rattle.mt_box.specs.declared.marks.row.RowPart.{RowPart}
use Rattle.mt_box.specs.declared.marks.row.RowPart.TheVariants as part
use Rattle.mt_box.specs.Extents.{ExtentsInRange}
use Rattle.mt_box.specs.Rows.{PieceValue, PieceGlyph, PieceBox, PieceKern, PieceSpace}
use Rattle.mt_box.specs.marks.Layers.{dropped, top}
use Rattle.mt_rules.specs.OnMarks.{layout_with}
use Rattle.mt_pieces.specs.declared.last.TwoBoxes.{TwoBoxes}
use Rattle.mt_pieces.specs.declared.pieces.Pieces.TheInside.{Inside}

-- the piece of a part whose layer has these places
abbrev pub piece_of : RowPart → List Place → PieceValue
piece_of (part.Glyph f c e) l = PieceGlyph f c e
piece_of (part.Layout p) l = PieceBox p.raise (layout_with p.extents l)
piece_of (part.Gap w) l = PieceKern w
piece_of (part.Space w s) l = PieceSpace w s

-- the layouts under that of a part
abbrev pub under : RowPart → List (List Place) → List (List Place)
under (part.Glyph f c e) ls = dropped ls
under (part.Layout p) ls = dropped ls
under (part.Gap w) ls = ls
under (part.Space w s) ls = ls

abbrev pub pieces_back : List RowPart → List (List Place) → List PieceValue
pieces_back [] ls = []
pieces_back (p ∷ ps) ls = pieces_back ps (under p ls) ++ piece_of p (top ls) ∷ []

abbrev pub pieces_of : Inside → List PieceValue
pieces_of a = pieces_back (reverse a.parts.items) a.marks

-- ---- what holds

-- a character's layer is its mark alone
pub record IsGlyphLaid (f c : ℕ) (e : Extents) (l : List Place) : Type 0 where
  pub places : l ≡ Glyph f c (pos 0) (pos 0) ∷ []
  pub width : Within (2 ^ 40) e.width
  pub height : Within (2 ^ 40) e.height
  pub depth : Within (2 ^ 40) e.depth

pub record IsBoxLaid (p : RowPiece) : Type 0 where
  pub extents : ExtentsInRange p.extents
  pub raise : Within (2 ^ 40) p.raise

-- the layer of a part is on top, and its numbers are near
abbrev pub IsLaid : RowPart → List (List Place) → Type 0
IsLaid (part.Glyph f c e) [] = ⊥
IsLaid (part.Glyph f c e) (l ∷ ls) = IsGlyphLaid f c e l
IsLaid (part.Layout p) [] = ⊥
IsLaid (part.Layout p) (l ∷ ls) = IsBoxLaid p
IsLaid (part.Gap w) ls = Within (2 ^ 40) w
IsLaid (part.Space w s) ls = Within (2 ^ 40) w × Within (2 ^ 40) s

-- there are no other layers
abbrev pub AreLaid : List RowPart → List (List Place) → Type 0
AreLaid [] ls = ls ≡ []
AreLaid (p ∷ ps) ls = IsLaid p ls × AreLaid ps (under p ls)

abbrev pub ArePieces : Inside → Type 0
ArePieces a = AreLaid (reverse a.parts.items) a.marks

-- a box that is not raised
abbrev pub box_part : Extents → RowPart
box_part e = part.Layout record { extents = e; raise = pos 0 }

-- the row of a root: a kern, the degree raised, a kern, the radical
abbrev pub root_parts : TwoBoxes → ℤ → ℤ → ℤ → List RowPart
root_parts b before behind raise =
    part.Gap before ∷ part.Layout record { extents = b.first.extents; raise = raise } ∷ part.Gap behind ∷ box_part b.second.extents ∷ []
