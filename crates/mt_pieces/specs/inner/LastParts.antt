-- Parts by their kinds: the last ones and the first one.
use Rattle.std.specs.Prelude.{List, [], ◌∷◌, Bool, true, false, Option, Some, None}
use Rattle.mt_box.specs.declared.marks.row.RowPiece.{RowPiece}
use Rattle.mt_box.specs.declared.marks.row.RowPart.{RowPart}
use Rattle.mt_box.specs.declared.marks.row.RowPart.TheVariants as part
use Rattle.mt_box.specs.Boxes.{is_unraised}
use Rattle.mt_pieces.specs.declared.last.TwoBoxes.{TwoBoxes}

-- the last part, a box; parts are taken from the last one
abbrev pub last_box : List RowPart → Option RowPiece
last_box [] = None
last_box (part.Glyph f c e ∷ ps) = None
last_box (part.Layout p ∷ ps) = Some p
last_box (part.Gap w ∷ ps) = None
last_box (part.Space w s ∷ ps) = None

-- the only part, a box that is not raised
abbrev pub is_lone_part : List RowPart → Bool
is_lone_part [] = false
is_lone_part (part.Glyph f c e ∷ ps) = false
is_lone_part (part.Layout p ∷ []) = is_unraised p.raise
is_lone_part (part.Layout p ∷ q ∷ ps) = false
is_lone_part (part.Gap w ∷ ps) = false
is_lone_part (part.Space w s ∷ ps) = false

-- the first part is a character
abbrev pub is_glyph_first : List RowPart → Bool
is_glyph_first [] = false
is_glyph_first (part.Glyph f c e ∷ ps) = true
is_glyph_first (part.Layout p ∷ ps) = false
is_glyph_first (part.Gap w ∷ ps) = false
is_glyph_first (part.Space w s ∷ ps) = false

-- the first part is a space
abbrev pub is_space_first : List RowPart → Bool
is_space_first [] = false
is_space_first (part.Glyph f c e ∷ ps) = false
is_space_first (part.Layout p ∷ ps) = false
is_space_first (part.Gap w ∷ ps) = false
is_space_first (part.Space w s ∷ ps) = true

-- two boxes, the second of which is the last part
abbrev with_one_before : RowPiece → List RowPart → Option TwoBoxes
with_one_before q [] = None
with_one_before q (part.Glyph f c e ∷ ps) = None
with_one_before q (part.Layout p ∷ ps) = Some record { first = p; second = q }
with_one_before q (part.Gap w ∷ ps) = None
with_one_before q (part.Space w s ∷ ps) = None

-- the last two parts, both boxes
abbrev pub last_two : List RowPart → Option TwoBoxes
last_two [] = None
last_two (part.Glyph f c e ∷ ps) = None
last_two (part.Layout q ∷ ps) = with_one_before q ps
last_two (part.Gap w ∷ ps) = None
last_two (part.Space w s ∷ ps) = None

abbrev pub first_part : List RowPart → Option RowPart
first_part [] = None
first_part (p ∷ ps) = Some p

-- a kern and a space have none
abbrev pub has_layer : RowPart → Bool
has_layer (part.Glyph f c e) = true
has_layer (part.Layout p) = true
has_layer (part.Gap w) = false
has_layer (part.Space w s) = false
