-- Limits on marks. A limit that is absent has a layout without places.
use Rattle.std.specs.Prelude.{◌≡◌, ℕ, ℤ, ◌+ℤ◌, List, [], Option, Some, None, ⊤}
use Rattle.mt_family.specs.declared.size.Size.{Size}
use Rattle.mt_family.specs.SetValue.{SetValue}
use Rattle.mt_box.specs.declared.place.Place.{Place}
use Rattle.mt_box.specs.declared.extents.Extents.{Extents}
use Rattle.mt_box.specs.Layout.{Layout, BoxValue}
use Rattle.mt_box.specs.marks.Recentred.{recentred_extents, recentred_places, recentred_layer}
use Rattle.mt_rules.specs.OnMarks.{layout_with}
use Rattle.mt_rules.specs.Parameters.{big_op_spacing5}
use Rattle.mt_rules.specs.Limits.{gap_above, gap_below}

abbrev pub limit_of : Option Extents → List Place → Option Layout
limit_of None ps = None
limit_of (Some e) ps = Some (layout_with e ps)

abbrev pub IsLimit : Option Extents → List Place → Type 0
IsLimit None ps = ps ≡ []
IsLimit (Some e) ps = ⊤

-- in the middle of a width, if it is there
abbrev pub middle_extents : Option Extents → ℤ → Option Extents
middle_extents None width = None
middle_extents (Some e) width = Some (recentred_extents e width)

abbrev pub middle_places : Option Extents → ℤ → List Place → List Place
middle_places None width ps = ps
middle_places (Some e) width ps = recentred_places e width ps

abbrev pub middle_layer : ℕ → Option Extents → ℤ → List (List Place) → List (List Place)
middle_layer under None width ls = ls
middle_layer under (Some e) width ls = recentred_layer under e width ls

-- how far above the baseline a limit is, and what is reached with it
abbrev pub limit_up : SetValue → Size → ℤ → Option Extents → ℤ
limit_up fonts size height None = height
limit_up fonts size height (Some e) = height +ℤ gap_above fonts size e +ℤ e.depth

abbrev pub reach_up : SetValue → Size → ℤ → Option Extents → ℤ
reach_up fonts size height None = height
reach_up fonts size height (Some e) = height +ℤ gap_above fonts size e +ℤ e.depth +ℤ e.height +ℤ big_op_spacing5 fonts size

abbrev pub limit_down : SetValue → Size → ℤ → Option Extents → ℤ
limit_down fonts size depth None = depth
limit_down fonts size depth (Some e) = depth +ℤ gap_below fonts size e +ℤ e.height

abbrev pub reach_down : SetValue → Size → ℤ → Option Extents → ℤ
reach_down fonts size depth None = depth
reach_down fonts size depth (Some e) = depth +ℤ gap_below fonts size e +ℤ e.height +ℤ e.depth +ℤ big_op_spacing5 fonts size

abbrev pub extents_in : Option BoxValue → Option Extents
extents_in None = None
extents_in (Some b) = Some b.extents
