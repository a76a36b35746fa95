-- The levels of boxes of cells.
use Rattle.std.proofs.Common.{◌≤◌, ◌<◌, ◌+◌, ◌^◌, List, [], ◌∷◌, arith, All}
use Rattle.std.proofs.lemmas.List.Elements.{All-head, All-tail}
use Rattle.mt_box.specs.Layout.{BoxValue}
use Rattle.mt_align.specs.Cells.{boxes_level, table_level}

abbrev pub Low : BoxValue → Type 0
Low b = b.level + 4 ≤ 2 ^ 20

pub boxes_level-low : (bs : List BoxValue) → 1 ≤ boxes_level bs
boxes_level-low [] = omega arith
boxes_level-low (b ∷ bs) = omega (arith, boxes_level-low bs)

pub boxes_level-small : (bs : List BoxValue) → All Low bs → boxes_level bs < 2 ^ 20
boxes_level-small [] h = omega arith
boxes_level-small (b ∷ bs) h = omega (arith, All-head Low b bs h, boxes_level-small bs (All-tail Low b bs h))

pub table_level-low : (rows : List (List BoxValue)) → 1 ≤ table_level rows
table_level-low [] = omega arith
table_level-low (row ∷ rows) = omega (arith, table_level-low rows)

pub table_level-small : (rows : List (List BoxValue)) → All (All Low) rows → table_level rows ≤ 2 ^ 20
table_level-small [] h = omega arith
table_level-small (row ∷ rows) h = omega (arith, boxes_level-small row (All-head (All Low) row rows h), table_level-small rows (All-tail (All Low) row rows h))
