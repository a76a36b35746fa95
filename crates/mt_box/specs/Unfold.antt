-- The places of a list of nodes (`unfolded`).
use Rattle.std.specs.Prelude.{ℕ, zero, suc, ◌+◌, ℤ, pos, ◌+ℤ◌, ◌-ℤ◌, ◌<ℤ◌, ◌≤◌, ◌==◌, nat_lt, nat_le, ◌&&◌, Bool, true, false, List, [], ◌∷◌, ◌++◌, length, drop, if◌then◌else◌, ⊤}
use Rattle.mt_box.specs.declared.place.Place.{Place}
use Rattle.mt_box.specs.declared.place.Place.TheVariants.{Glyph, Rule}
use Rattle.mt_box.specs.declared.node.Node.{Node}
use Rattle.mt_box.specs.declared.node.Mark.{Mark}
use Rattle.mt_box.specs.declared.node.Mark.TheVariants as mark
use Rattle.mt_box.specs.Limits.{max_repeats}

-- so many glyphs at h, the first at v, each a step below the one before
abbrev pub stacked : ℕ → ℕ → ℤ → ℕ → ℤ → ℤ → List Place
stacked font code step zero h v = []
stacked font code step (suc n) h v = Glyph font code h v ∷ stacked font code step n h (v +ℤ step)

-- what a mark at h and v places
abbrev pub marks : Mark → ℤ → ℤ → List Place
marks mark.Group h v = []
marks (mark.Glyph font code) h v = Glyph font code h v ∷ []
marks (mark.Rule height width) h v = Rule h v height width ∷ []
marks (mark.Stack font code step count) h v = stacked font code step count h v

-- what the first of some nodes gives
abbrev pub at_first : List Node → (Node → List Place) → List Place
at_first [] f = []
at_first (n ∷ ns) f = f n

-- the places of the nodes from i on before `end`, relative to (x, y), in so many turns at most
abbrev pub unfolded_in : ℕ → List Node → ℕ → ℕ → ℤ → ℤ → List Place
unfolded_in zero nodes i end x y = []
unfolded_in (suc turns) nodes i end x y =
    if i == end then [] else at_first (drop i nodes) (λ n.
    marks n.mark (x +ℤ n.x) (pos 0 -ℤ (y +ℤ n.y))
    ++ (unfolded_in turns nodes (i + 1) n.after.0 (x +ℤ n.x) (y +ℤ n.y)
    ++ unfolded_in turns nodes n.after.0 end x y))

-- the places of all nodes: each turn takes one, so as many turns as nodes are enough
abbrev pub unfolded : List Node → List Place
unfolded nodes = unfolded_in (length nodes) nodes 0 (length nodes) (pos 0) (pos 0)

-- ---- which nodes a box has

-- whether what is said of the first of some nodes holds
abbrev pub is_first : List Node → (Node → Bool) → Bool
is_first [] f = false
is_first (n ∷ ns) f = f n

-- each node from i on before `end` is followed by those in it, all before `end`
abbrev pub is_nested_in : ℕ → List Node → ℕ → ℕ → Bool
is_nested_in zero nodes i end = i == end
is_nested_in (suc turns) nodes i end =
    if i == end then true else is_first (drop i nodes) (λ n.
    nat_lt i n.after.0 && nat_le n.after.0 end && is_nested_in turns nodes (i + 1) n.after.0 && is_nested_in turns nodes n.after.0 end)

abbrev pub is_nested : List Node → Bool
is_nested nodes = is_nested_in (length nodes) nodes 0 (length nodes)

-- a rule has a height and a width, and a stack is not too high
abbrev pub IsMark : Mark → Type 0
IsMark mark.Group = ⊤
IsMark (mark.Glyph font code) = ⊤
IsMark (mark.Rule height width) = (pos 0 <ℤ height) × (pos 0 <ℤ width)
IsMark (mark.Stack font code step count) = count ≤ max_repeats
