-- The end of the first pass (`Finishes`): final classes, in the list of the code (`settled_items`), and classes that an atom before has
-- settled (`AllCanFollow`).
use Rattle.std.specs.Prelude.{◌≡◌, ◌≤◌, ◌≤ℤ◌, ◌^◌, pos, ⊤, List, [], ◌∷◌, length, Option, Some, None}
use Rattle.std.specs.Option.{option_or}
use Rattle.mt_scaled.specs.Number.{max_dimen}
use Rattle.mt_box.specs.Rows.{PieceValue}
use Rattle.mt_rules.specs.declared.class.Class.{Class}
use Rattle.mt_rules.specs.Classes.{settled_of}
use Rattle.mt_spacing.specs.Meeting.{CanMeet}
use Rattle.mt_pieces.specs.declared.items.PlacedItem.{PlacedItem}
use Rattle.mt_pieces.specs.declared.items.PlacedItem.TheVariants as placed
use Rattle.mt_convert.specs.declared.placed.PlacedHalves.{PlacedHalves}
use Rattle.mt_convert.specs.Halves.{HalfValue, Halves, class_to_left, class_to_right, greatest_height, greatest_depth}
use Rattle.mt_convert.specs.Halfway.{BoundariesOutside}
use Rattle.mt_convert.specs.inner.Placed.{AllPlacedFit, IsPlaced, placed_count, placed_halves, placed_left, placed_values}

abbrev pub settled_item : PlacedItem → Option Class → PlacedItem
settled_item (placed.Set class count) after = placed.Set (settled_of class after) count
settled_item h after = h

-- the class that the first atom of these items counts as for what is before them
abbrev pub next_placed : List PlacedItem → Option Class
next_placed [] = None
next_placed (h ∷ hs) = option_or (placed_left h) (next_placed hs)

-- each by the class of the next atom
abbrev pub settled_items : List PlacedItem → List PlacedItem
settled_items [] = []
settled_items (h ∷ hs) = settled_item h (next_placed hs) ∷ settled_items hs

-- these may be side by side, whatever follows
abbrev pub CanFollow : Option Class → Option Class → Type 0
CanFollow None right = ⊤
CanFollow (Some left) None = ⊤
CanFollow (Some left) (Some right) = CanMeet left right

-- each atom can be after the atom before it; the first class is that of the last atom before
abbrev pub AllCanFollow : Option Class → List HalfValue → Type 0
AllCanFollow last [] = ⊤
AllCanFollow last (h ∷ hs) = CanFollow last (class_to_left h) × AllCanFollow (option_or (class_to_right h) last) hs

-- ---- the end of the first pass

-- items with the classes that they have got from the left
pub record CanFinish (hs : List PlacedItem) (row : List PieceValue) : Type 0 where
  pub count : placed_count hs ≡ length row
  pub boundaries : BoundariesOutside (placed_values hs row)
  pub follow : AllCanFollow None (placed_values hs row)
  pub few : length hs ≤ 2 ^ 19
  pub total : length row ≤ 2 ^ 20
  pub fit : AllPlacedFit hs
  pub height : greatest_height (placed_values hs row) ≤ℤ pos max_dimen
  pub depth : greatest_depth (placed_values hs row) ≤ℤ pos max_dimen

pub record Finishes (h : PlacedHalves) (row : List PieceValue) (halves : Halves) : Type 0 where
  pub is : placed_halves h row ≡ halves
  pub placed : IsPlaced h row
