-- Items between the passes whose rows were put on a stack (`ArePut`).
use Rattle.std.specs.Prelude.{◌≡◌, List, ◌++◌, length}
use Rattle.mt_box.specs.Rows.{PieceValue}
use Rattle.mt_convert.specs.declared.half.Half.{Half}
use Rattle.mt_pieces.specs.declared.items.PlacedItem.{PlacedItem}
use Rattle.mt_convert.specs.Halfway.{half_value, half_values, count_of, total_of}
use Rattle.mt_convert.specs.inner.Placed.{placed_value, placed_values, placed_length, placed_count, PlacedFits, AllPlacedFit}

pub record IsPut (h : PlacedItem) (item : Half) (old new : List PieceValue) : Type 0 where
  pub row : List PieceValue
  pub stays : new ≡ old ++ row
  pub is : placed_value h row ≡ half_value item
  pub length_is : placed_length h ≡ length row
  pub count : length row ≡ count_of item
  pub fits : PlacedFits h

pub record ArePut (hs : List PlacedItem) (items : List Half) (old new : List PieceValue) : Type 0 where
  pub row : List PieceValue
  pub stays : new ≡ old ++ row
  pub are : placed_values hs row ≡ half_values items
  pub few : length hs ≡ length items
  pub count : placed_count hs ≡ length row
  pub total : length row ≡ total_of items
  pub fit : AllPlacedFit hs
