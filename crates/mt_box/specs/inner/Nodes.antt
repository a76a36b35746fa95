-- Nodes: what they place, and those of a box.
use Rattle.std.specs.Prelude.{◌≡◌, ℕ, ◌+◌, ℤ, pos, ◌+ℤ◌, ◌-ℤ◌, List, [], ◌∷◌, ◌++◌, map, All, ⊤}
use Rattle.mt_scaled.specs.Number.{Within}
use Rattle.mt_box.specs.declared.place.Place.{Place}
use Rattle.mt_box.specs.declared.node.Node.{Node}
use Rattle.mt_box.specs.Unfold.{marks, IsMark}

-- the places of nodes none of which is in another, in order
abbrev pub node_places : List Node → List Place
node_places [] = []
node_places (n ∷ ns) = marks n.mark n.x (pos 0 -ℤ n.y) ++ node_places ns

-- a node moved right and up
abbrev pub node_moved : ℤ → ℤ → Node → Node
node_moved x y n = record { x = n.x +ℤ x; y = n.y +ℤ y; mark = n.mark; after = n.after }

abbrev pub nodes_moved : ℤ → ℤ → List Node → List Node
nodes_moved x y ns = map (node_moved x y) ns

-- a rule has a height and a width, and a stack is not too high
abbrev pub HasMark : Node → Type 0
HasMark n = IsMark n.mark

abbrev pub AreMarks : List Node → Type 0
AreMarks ns = All HasMark ns

-- these nodes, of which the first has the number i, are marks, none is in another, and none is further to a side
abbrev pub AreFlat : ℕ → ℕ → List Node → Type 0
AreFlat far i [] = ⊤
AreFlat far i (n ∷ ns) = (n.after.0 ≡ i + 1) × Within far n.x × HasMark n × AreFlat far (i + 1) ns
