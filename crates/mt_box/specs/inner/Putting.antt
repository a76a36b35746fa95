-- The places of a box while they are put after others.
use Rattle.std.specs.Prelude.{◌≡◌, ℕ, ◌+ℤ◌, ◌-ℤ◌, true, List, length, take, Some, None, Result, Ok, Err}
use Rattle.mt_scaled.specs.Number.{is_in_range}
use Rattle.mt_box.specs.Placing.{Puts, fault_at}
use Rattle.mt_box.specs.declared.node.Node.{Node}
use Rattle.mt_box.specs.declared.place.Place.{Place}
use Rattle.mt_box.specs.declared.placing.Spot.{Spot}
use Rattle.mt_box.specs.declared.point.Point.{Point}
use Rattle.mt_box.specs.declared.error.PlaceError.{PlaceError}

-- where one place is, or its fault
abbrev pub Spots : ℕ → Point → Result Spot PlaceError → Type 0
Spots room at (Ok s) = (s.h ≡ at.h) × (s.v ≡ at.v) × (fault_at room at.h at.v ≡ None)
Spots room at (Err e) = fault_at room at.h at.v ≡ Some e

-- a point as far to the right and up of another one as a node says, with coordinates in range
pub record IsSpotOf (at : Spot) (node : Node) (s : Spot) : Type 0 where
  pub h : s.h ≡ at.h +ℤ node.x
  pub v : s.v ≡ at.v -ℤ node.y
  pub h_in_range : is_in_range s.h ≡ true
  pub v_in_range : is_in_range s.v ≡ true

-- all of them come to the end, without a fault
abbrev pub ArePut : ℕ → List Place → List Place → List Place → Type 0
ArePut room before ps after = Puts room before ps (Ok tt) after

-- the first of the places are those that were there before
abbrev pub IsFront : List Place → List Place → Type 0
IsFront before places = take (length before) places ≡ before
