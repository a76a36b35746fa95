-- The parts of the cells of a table.
use Rattle.std.specs.Prelude.{◌≡◌, pos, List, [], ◌∷◌, ◌++◌, ⊤}
use Rattle.mt_box.specs.declared.extents.Extents.{Extents}
use Rattle.mt_box.specs.declared.marks.row.RowPart.{RowPart}
use Rattle.mt_box.specs.declared.marks.row.RowPart.TheVariants as part
use Rattle.mt_box.specs.Extents.{ExtentsInRange}

-- the rows of a table one after another
abbrev pub flat : {A : Type 0} → List (List A) → List A
flat [] = []
flat (row ∷ rows) = row ++ flat rows

-- boxes that are not raised and reach so far
abbrev pub AreBoxes : List RowPart → List Extents → Type 0
AreBoxes [] [] = ⊤
AreBoxes [] (e ∷ es) = ⊥
AreBoxes (p ∷ ps) [] = ⊥
AreBoxes (part.Glyph f c x ∷ ps) (e ∷ es) = ⊥
AreBoxes (part.Layout p ∷ ps) (e ∷ es) = (p ≡ record { extents = e; raise = pos 0 }) × AreBoxes ps es
AreBoxes (part.Gap w ∷ ps) (e ∷ es) = ⊥
AreBoxes (part.Space w s ∷ ps) (e ∷ es) = ⊥

abbrev pub BoxesInRange : List RowPart → Type 0
BoxesInRange [] = ⊤
BoxesInRange (part.Glyph f c x ∷ ps) = BoxesInRange ps
BoxesInRange (part.Layout p ∷ ps) = ExtentsInRange p.extents × BoxesInRange ps
BoxesInRange (part.Gap w ∷ ps) = BoxesInRange ps
BoxesInRange (part.Space w s ∷ ps) = BoxesInRange ps
