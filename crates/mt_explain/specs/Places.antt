-- Places in a text (`IsPlaceIn`).
use Rattle.std.specs.Prelude.{◌≡◌, ◌≤◌, ℕ, List, length}
use Rattle.mt_explain.specs.Positions.{position_of}
use Rattle.mt_explain.specs.declared.place.Place.{Place}

-- a byte of the text or its end, with the line and the column of its offset
pub record IsPlaceIn (text : List ℕ) (place : Place) : Type 0 where
  pub within : place.offset ≤ length text
  pub position : place.position ≡ position_of text place.offset
  pub first : 1 ≤ place.position.column
