-- What a box's nodes are seen as (`value_of_box`), and what holds of each box (`IsSoundBox`).
use Rattle.std.specs.Prelude.{ℕ, ◌≤◌, ◌+◌, ◌*◌, ◌^◌}
use Rattle.mt_box.specs.declared.packed.Packed.TheInside.{Inside}
use Rattle.mt_box.specs.Layout.{BoxValue}
use Rattle.mt_box.specs.Extents.{ExtentsInRange}
use Rattle.mt_box.specs.inner.Nodes.{node_places, AreFlat}

abbrev pub value_of_box : Inside → BoxValue
value_of_box a = record { extents = a.extents; places = node_places a.nodes.items; level = a.level }

-- how far to a side a node of a box of this level may be
abbrev pub reach : ℕ → ℕ
reach level = 3 * 2 ^ 61 + 2 ^ 31 * level

pub record IsSoundBox (a : Inside) : Type 0 where
  pub extents : ExtentsInRange a.extents
  pub level : a.level ≤ 2 ^ 20
  pub level_low : 1 ≤ a.level
  pub flat : AreFlat (reach a.level) 0 a.nodes.items
