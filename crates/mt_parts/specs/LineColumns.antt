-- The level of lines one below another (`boxes_level`).
use Rattle.std.specs.Prelude.{ℕ, ◌+◌, max, List, [], ◌∷◌}
use Rattle.mt_box.specs.Layout.{BoxValue}

-- one more than the greatest level of the boxes, and 1 without any
abbrev pub boxes_level : List BoxValue → ℕ
boxes_level [] = 1
boxes_level (b ∷ bs) = max (b.level + 1) (boxes_level bs)
