-- Items between the passes with their rows, beside the same items with their pieces on a stack (`AreTaken`).
use Rattle.std.specs.Prelude.{◌≡◌, ◌≤◌, ℕ, List}
use Rattle.mt_box.specs.Rows.{PieceValue}
use Rattle.mt_convert.specs.declared.half.Half.{Half}
use Rattle.mt_pieces.specs.declared.items.PlacedItem.{PlacedItem}
use Rattle.mt_convert.specs.Halfway.{half_value, half_values, count_of, total_of, HalfFits, HalvesFit}
use Rattle.mt_convert.specs.inner.Placed.{placed_value, placed_values, placed_length, placed_count, PlacedFits, AllPlacedFit}

-- an item whose row has these pieces; its boxes have level 1
pub record IsTaken (h : Half) (item : PlacedItem) (row : List PieceValue) : Type 0 where
  pub is : half_value h ≡ placed_value item row
  pub count : count_of h ≡ placed_length item
  pub fits : PlacedFits item → (n : ℕ) → 1 ≤ n → HalfFits n h

pub record AreTaken (hs : List Half) (items : List PlacedItem) (row : List PieceValue) : Type 0 where
  pub are : half_values hs ≡ placed_values items row
  pub total : total_of hs ≡ placed_count items
  pub fit : AllPlacedFit items → (n : ℕ) → 1 ≤ n → HalvesFit n hs
