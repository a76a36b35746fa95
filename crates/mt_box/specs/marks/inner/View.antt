-- What the fields of `Marks` are seen as, and what holds of them.
use Rattle.std.specs.Prelude.{ℕ, ◌≤◌, List, [], ◌∷◌, take, drop, length, reverse, ⊤}
use Rattle.mt_box.specs.declared.place.Place.{Place}
use Rattle.mt_box.specs.declared.node.Node.{Node}
use Rattle.mt_box.specs.inner.Nodes.{node_places, AreMarks}
use Rattle.mt_box.specs.declared.marks.stack.Marks.TheInside.{Inside}

-- the places of layouts that begin at these nodes, from the top one
abbrev pub layers : List Node → List ℕ → List (List Place)
layers ns [] = []
layers ns (s ∷ ss) = node_places (drop s ns) ∷ layers (take s ns) ss

abbrev pub layers_of : Inside → List (List Place)
layers_of a = layers a.nodes.items (reverse a.starts.items)

-- none is above the one before it
abbrev pub Fall : ℕ → List ℕ → Type 0
Fall n [] = ⊤
Fall n (s ∷ ss) = (s ≤ n) × Fall s ss

pub record AreLayers (a : Inside) : Type 0 where
  pub marks : AreMarks a.nodes.items
  pub starts : Fall (length a.nodes.items) (reverse a.starts.items)
