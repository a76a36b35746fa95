-- Items of an open list in an arena (`are_inside`).
use Rattle.std.specs.Prelude.{Bool, true, false, ◌&&◌, List, [], ◌∷◌}
use Rattle.mt_arena.specs.Arena.{Held, ItemHeld}
use Rattle.mt_formula.specs.reading.Facts.{stands_between, stands_inside}

-- all are items that may be in a list which has no boundaries
abbrev pub are_inside : List Held → Bool
are_inside [] = true
are_inside (ItemHeld e ∷ hs) = stands_inside e && are_inside hs
are_inside (_ ∷ hs) = false

-- the same, with middles between them
abbrev pub are_between : List Held → Bool
are_between [] = true
are_between (ItemHeld e ∷ hs) = stands_between e && are_between hs
are_between (_ ∷ hs) = false
