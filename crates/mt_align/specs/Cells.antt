-- The layouts of cells (`cells_of`), and the level of their table (`table_level`).
use Rattle.std.specs.Prelude.{ℕ, ◌+◌, max, List, [], ◌∷◌, map}
use Rattle.mt_box.specs.Layout.{BoxValue, layout_of}
use Rattle.mt_rules.specs.Tables.{Cells}

-- the layouts of the cells, row by row
abbrev pub cells_of : List (List BoxValue) → List Cells
cells_of [] = []
cells_of (row ∷ rows) = map layout_of row ∷ cells_of rows

-- one more than the greatest level of the boxes, and 1 without any
abbrev pub boxes_level : List BoxValue → ℕ
boxes_level [] = 1
boxes_level (b ∷ bs) = max (b.level + 1) (boxes_level bs)

-- each row has the level of a box of its cells, and the table the level of a box of its rows
abbrev pub table_level : List (List BoxValue) → ℕ
table_level [] = 1
table_level (row ∷ rows) = max (boxes_level row + 1) (table_level rows)
