-- Items between the two passes whose pieces are on a stack (`placed_values`): those of an item come after those of the item before it.
use Rattle.std.specs.Prelude.{◌≡◌, ◌≤◌, ◌≤ℤ◌, ◌+◌, ◌^◌, ℕ, pos, ⊤, List, [], ◌∷◌, ◌++◌, length, take, drop, Option, None, Result, Ok, Err}
use Rattle.mt_scaled.specs.Number.{Within, max_dimen}
use Rattle.mt_box.specs.Rows.{PieceValue, row_height, row_depth}
use Rattle.mt_rules.specs.declared.class.Class.{Class}
use Rattle.mt_rules.specs.Setting.{Setting}
use Rattle.mt_convert.specs.declared.fault.SetFault.{SetFault}
use Rattle.mt_pieces.specs.declared.items.PlacedItem.{PlacedItem}
use Rattle.mt_pieces.specs.declared.items.PlacedItem.TheVariants as placed
use Rattle.mt_convert.specs.declared.placed.PlacedHalves.{PlacedHalves}
use Rattle.mt_convert.specs.Calls.{SetFails}
use Rattle.mt_convert.specs.Halves.{HalfValue, HalfAtom, HalfLeft, HalfMiddle, HalfRight, HalfStyle, HalfKern, HalfSpace, Halves, class_to_left, class_to_right}
use Rattle.mt_convert.specs.Halfway.{AllMeet, BoundariesOutside}

-- how many pieces an item has
abbrev pub placed_length : PlacedItem → ℕ
placed_length (placed.Set class count) = count
placed_length (placed.Left delim) = 0
placed_length (placed.Middle delim) = 0
placed_length (placed.Right delim) = 0
placed_length (placed.Style style) = 0
placed_length (placed.Kern amount) = 0
placed_length (placed.Space glue) = 0

abbrev pub placed_count : List PlacedItem → ℕ
placed_count [] = 0
placed_count (h ∷ hs) = placed_length h + placed_count hs

-- the item that the first of these pieces are of
abbrev pub placed_value : PlacedItem → List PieceValue → HalfValue
placed_value (placed.Set class count) row = HalfAtom class (take count row)
placed_value (placed.Left delim) row = HalfLeft delim
placed_value (placed.Middle delim) row = HalfMiddle delim
placed_value (placed.Right delim) row = HalfRight delim
placed_value (placed.Style style) row = HalfStyle style
placed_value (placed.Kern amount) row = HalfKern amount
placed_value (placed.Space glue) row = HalfSpace glue

-- what it counts as for the atoms beside it
abbrev pub placed_left : PlacedItem → Option Class
placed_left h = class_to_left (placed_value h [])

abbrev pub placed_right : PlacedItem → Option Class
placed_right h = class_to_right (placed_value h [])

abbrev pub placed_values : List PlacedItem → List PieceValue → List HalfValue
placed_values [] row = []
placed_values (h ∷ hs) row = placed_value h row ∷ placed_values hs (drop (placed_length h) row)

abbrev pub placed_halves : PlacedHalves → List PieceValue → Halves
placed_halves h row = record { items = placed_values h.items row; height = h.height.sp; depth = h.depth.sp }

-- items that the first pass has set reach as far as their pieces
abbrev pub reaching : List PlacedItem → List PieceValue → PlacedHalves
reaching hs row = record { items = hs; height = record { sp = row_height row }; depth = record { sp = row_depth row } }

-- ---- what such items keep

-- kerns and spaces are at most 2^40 in size
abbrev pub PlacedFits : PlacedItem → Type 0
PlacedFits (placed.Set class count) = ⊤
PlacedFits (placed.Left delim) = ⊤
PlacedFits (placed.Middle delim) = ⊤
PlacedFits (placed.Right delim) = ⊤
PlacedFits (placed.Style style) = ⊤
PlacedFits (placed.Kern amount) = Within (2 ^ 40) amount
PlacedFits (placed.Space glue) = Within (2 ^ 40) glue.width × Within (2 ^ 40) glue.shrink

abbrev pub AllPlacedFit : List PlacedItem → Type 0
AllPlacedFit [] = ⊤
AllPlacedFit (h ∷ hs) = PlacedFits h × AllPlacedFit hs

-- the pieces are theirs, and neighbouring atoms may be side by side
pub record PlacesIn (hs : List PlacedItem) (row : List PieceValue) : Type 0 where
  pub count : placed_count hs ≡ length row
  pub meet : AllMeet None (placed_values hs row)
  pub few : length hs ≤ 2 ^ 19
  pub total : length row ≤ 2 ^ 20
  pub fit : AllPlacedFit hs

-- with these pieces they are a list between the passes
pub record IsPlaced (h : PlacedHalves) (row : List PieceValue) : Type 0 where
  pub items : PlacesIn h.items row
  pub boundaries : BoundariesOutside (placed_values h.items row)
  pub height_low : pos 0 ≤ℤ h.height.sp
  pub height_high : h.height.sp ≤ℤ pos max_dimen
  pub depth_low : pos 0 ≤ℤ h.depth.sp
  pub depth_high : h.depth.sp ≤ℤ pos max_dimen

-- ---- what the first pass answers: the pieces of its items are behind those that were there

pub record ItemsOn (hs : List PlacedItem) (old new : List PieceValue) (setting : Setting Halves) : Type 0 where
  pub row : List PieceValue
  pub is : setting ≡ Ok (placed_halves (reaching hs row) row)
  pub stays : new ≡ old ++ row
  pub placed : IsPlaced (reaching hs row) row

abbrev pub SetsItemsOn : Result (List PlacedItem) SetFault → List PieceValue → List PieceValue → Setting Halves → Type 0
SetsItemsOn (Ok hs) old new setting = ItemsOn hs old new setting
SetsItemsOn (Err fault) old new setting = SetFails fault setting

-- ---- what is put on a stack between the passes

pub record HalvesOn (h : PlacedHalves) (old new : List PieceValue) (setting : Setting Halves) : Type 0 where
  pub row : List PieceValue
  pub is : setting ≡ Ok (placed_halves h row)
  pub stays : new ≡ old ++ row
  pub placed : IsPlaced h row
