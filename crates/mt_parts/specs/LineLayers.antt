-- Lines one below another on marks: how far they reach, and how their layouts are moved and joined.
use Rattle.std.specs.Prelude.{ℤ, pos, ◌+ℤ◌, ◌-ℤ◌, List, [], ◌∷◌}
use Rattle.std.specs.Int.{int_max}
use Rattle.mt_box.specs.declared.place.Place.{Place}
use Rattle.mt_box.specs.declared.extents.Extents.{Extents}
use Rattle.mt_box.specs.Layout.{Layout}
use Rattle.mt_box.specs.marks.Layers.{joined, moved_layer}
use Rattle.mt_rules.specs.Vcenter.{line_gap}

abbrev pub all_extents : List Layout → List Extents
all_extents [] = []
all_extents (l ∷ ls) = l.extents ∷ all_extents ls

abbrev pub all_places : List Layout → List (List Place)
all_places [] = []
all_places (l ∷ ls) = l.places ∷ all_places ls

-- the gap between the first line and the next one, if there is one
abbrev pub first_gap : List Extents → ℤ
first_gap [] = pos 0
first_gap (e ∷ []) = pos 0
first_gap (e ∷ f ∷ es) = line_gap e.depth f.height

-- how far it is from the top of the first line to the bottom of the last
abbrev pub lines_reach : List Extents → ℤ
lines_reach [] = pos 0
lines_reach (e ∷ es) = ((lines_reach es +ℤ first_gap (e ∷ es)) +ℤ e.depth) +ℤ e.height

abbrev pub widest : List Extents → ℤ
widest [] = pos 0
widest (e ∷ es) = int_max e.width (widest es)

-- the layouts of lines, the first one's top at y, each moved to its baseline and joined with the top one
abbrev pub lines_joined : ℤ → List Extents → List (List Place) → List (List Place)
lines_joined y [] ls = ls
lines_joined y (e ∷ es) ls =
    let baseline = y -ℤ e.height in
    joined (moved_layer 1 (pos 0) baseline (lines_joined ((baseline -ℤ e.depth) -ℤ first_gap (e ∷ es)) es ls))
