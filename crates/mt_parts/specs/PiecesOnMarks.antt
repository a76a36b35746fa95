-- The pieces of a row whose parts and layouts are these (`pieces_of`).
use Rattle.std.specs.Prelude.{pos, List, [], ◌∷◌, ⊤}
use Rattle.mt_box.specs.declared.place.Place.{Place}
use Rattle.mt_box.specs.Rows.{PieceValue, PieceBox, PieceKern, PieceSpace}
use Rattle.mt_box.specs.declared.marks.row.RowPart.{RowPart}
use Rattle.mt_box.specs.declared.marks.row.RowPart.TheVariants as part
use Rattle.mt_rules.specs.OnMarks.{layout_with}

abbrev pub pieces_of : List RowPart → List (List Place) → List PieceValue
pieces_of [] ls = []
pieces_of (part.Glyph f c e ∷ ps) [] = []
pieces_of (part.Glyph f c e ∷ ps) (l ∷ ls) = PieceBox (pos 0) (layout_with e l) ∷ pieces_of ps ls
pieces_of (part.Layout p ∷ ps) [] = []
pieces_of (part.Layout p ∷ ps) (l ∷ ls) = PieceBox p.raise (layout_with p.extents l) ∷ pieces_of ps ls
pieces_of (part.Gap w ∷ ps) ls = PieceKern w ∷ pieces_of ps ls
pieces_of (part.Space w s ∷ ps) ls = PieceSpace w s ∷ pieces_of ps ls

-- there is a layout for each part that is no gap and no space
abbrev pub HasLayouts : List RowPart → List (List Place) → Type 0
HasLayouts [] [] = ⊤
HasLayouts [] (l ∷ ls) = ⊥
HasLayouts (part.Glyph f c e ∷ ps) [] = ⊥
HasLayouts (part.Glyph f c e ∷ ps) (l ∷ ls) = HasLayouts ps ls
HasLayouts (part.Layout p ∷ ps) [] = ⊥
HasLayouts (part.Layout p ∷ ps) (l ∷ ls) = HasLayouts ps ls
HasLayouts (part.Gap w ∷ ps) ls = HasLayouts ps ls
HasLayouts (part.Space w s ∷ ps) ls = HasLayouts ps ls
