-- The cells of a table as pieces (`cell_pieces`).
use Rattle.std.specs.Prelude.{pos, List, [], ◌∷◌, ◌++◌, map}
use Rattle.mt_box.specs.Layout.{Layout}
use Rattle.mt_box.specs.Rows.{PieceValue, PieceBox}
use Rattle.mt_rules.specs.Tables.{Cells}

abbrev pub flat_box : Layout → PieceValue
flat_box l = PieceBox (pos 0) l

-- row by row, each a box that is not raised
abbrev pub cell_pieces : List Cells → List PieceValue
cell_pieces [] = []
cell_pieces (cells ∷ rows) = map flat_box cells ++ cell_pieces rows
