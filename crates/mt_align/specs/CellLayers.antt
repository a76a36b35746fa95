-- The cells of a table on marks: what they reach, and their places one on another.
use Rattle.std.specs.Prelude.{List, [], ◌∷◌, map}
use Rattle.mt_box.specs.declared.extents.Extents.{Extents}
use Rattle.mt_box.specs.declared.place.Place.{Place}
use Rattle.mt_box.specs.Layout.{Layout}
use Rattle.mt_rules.specs.OnMarks.{layout_with}
use Rattle.mt_rules.specs.Tables.{Cells}

abbrev pub cell_extents : Cells → List Extents
cell_extents [] = []
cell_extents (c ∷ cs) = c.extents ∷ cell_extents cs

-- what the cells reach, row by row
abbrev pub table_extents : List Cells → List (List Extents)
table_extents [] = []
table_extents (cells ∷ rows) = cell_extents cells ∷ table_extents rows

-- the cells of a row on other layouts, the last one on top
abbrev pub cells_on : Cells → List (List Place) → List (List Place)
cells_on [] rest = rest
cells_on (c ∷ cs) rest = cells_on cs (c.places ∷ rest)

-- those of all rows, the last one of the last row on top
abbrev pub table_on : List Cells → List (List Place) → List (List Place)
table_on [] rest = rest
table_on (cells ∷ rows) rest = table_on rows (cells_on cells rest)

-- ---- cells of which only the extents are known

abbrev pub bare : Extents → Layout
bare e = layout_with e []

abbrev pub bare_rows : List (List Extents) → List Cells
bare_rows [] = []
bare_rows (cells ∷ rows) = map bare cells ∷ bare_rows rows
