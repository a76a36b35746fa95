-- Lists of one atom alone (`is_lone_atom`).
use Rattle.std.specs.Prelude.{List, [], ◌∷◌, Bool, true, false}
use Rattle.mt_pieces.specs.declared.items.PlacedItem.{PlacedItem}
use Rattle.mt_pieces.specs.declared.items.PlacedItem.TheVariants as placed

abbrev pub is_set_atom : PlacedItem → Bool
is_set_atom (placed.Set class count) = true
is_set_atom (placed.Left delim) = false
is_set_atom (placed.Middle delim) = false
is_set_atom (placed.Right delim) = false
is_set_atom (placed.Style style) = false
is_set_atom (placed.Kern amount) = false
is_set_atom (placed.Space glue) = false

abbrev pub is_lone_atom : List PlacedItem → Bool
is_lone_atom [] = false
is_lone_atom (h ∷ []) = is_set_atom h
is_lone_atom (h ∷ k ∷ hs) = false
