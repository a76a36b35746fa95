-- A list without boundaries and middles as runs of pieces with gaps before them (`runs_of`).
use Rattle.std.specs.Prelude.{ℤ, Bool, true, false, List, [], ◌∷◌, Option, Some, None}
use Rattle.std.specs.List.{list_any}
use Rattle.mt_family.specs.SetValue.{SetValue}
use Rattle.mt_pieces.specs.declared.gaps.Gap.{Gap}
use Rattle.mt_pieces.specs.declared.gaps.Gap.TheVariants as gap
use Rattle.mt_pieces.specs.declared.gaps.Run.{Run}
use Rattle.mt_rules.specs.declared.class.Class.{Class}
use Rattle.mt_rules.specs.declared.style.Style.{Style}
use Rattle.mt_rules.specs.declared.symbol.Glue.{Glue}
use Rattle.mt_rules.specs.MathUnits.{math_unit}
use Rattle.mt_rules.specs.Spaces.{Spacing, NoSpacing, ThinSpacing, MediumSpacing, ThickSpacing, spacing, spacing_glue}
use Rattle.mt_convert.specs.declared.flat.current.Current.{Current}
use Rattle.mt_pieces.specs.declared.items.PlacedItem.{PlacedItem}
use Rattle.mt_pieces.specs.declared.items.PlacedItem.TheVariants as placed
use Rattle.mt_convert.specs.SecondPass.{current_after_half}
use Rattle.mt_convert.specs.inner.Placed.{placed_value}

abbrev pub is_boundary : PlacedItem → Bool
is_boundary (placed.Set class count) = false
is_boundary (placed.Left delim) = true
is_boundary (placed.Middle delim) = true
is_boundary (placed.Right delim) = true
is_boundary (placed.Style style) = false
is_boundary (placed.Kern amount) = false
is_boundary (placed.Space glue) = false

abbrev pub has_boundary : List PlacedItem → Bool
has_boundary hs = list_any is_boundary hs

abbrev pub gap_of_glue : Glue → Gap
gap_of_glue glue = gap.Space record { width = glue.width; shrink = glue.shrink }

-- where a math unit has this size
abbrev pub gap_of_spacing : Spacing → ℤ → Gap
gap_of_spacing NoSpacing unit = gap.None
gap_of_spacing ThinSpacing unit = gap_of_glue (spacing_glue ThinSpacing unit)
gap_of_spacing MediumSpacing unit = gap_of_glue (spacing_glue MediumSpacing unit)
gap_of_spacing ThickSpacing unit = gap_of_glue (spacing_glue ThickSpacing unit)

-- none before the first atom
abbrev pub gap_between : SetValue → Style → Option Class → Class → Gap
gap_between fonts style None right = gap.None
gap_between fonts style (Some left) right = gap_of_spacing (spacing left right style) (math_unit fonts style)

abbrev pub gap_before : SetValue → Current → Class → Gap
gap_before fonts current right = gap_between fonts current.style current.last right

-- what comes before the pieces of an item that is no boundary, and how many pieces it has
abbrev pub run_of : SetValue → Current → PlacedItem → Run
run_of fonts current (placed.Set class count) = record { gap = gap_before fonts current class; count = count }
run_of fonts current (placed.Left delim) = record { gap = gap.None; count = 0 }
run_of fonts current (placed.Middle delim) = record { gap = gap.None; count = 0 }
run_of fonts current (placed.Right delim) = record { gap = gap.None; count = 0 }
run_of fonts current (placed.Style style) = record { gap = gap.None; count = 0 }
run_of fonts current (placed.Kern amount) = record { gap = gap.Kern record { sp = amount }; count = 0 }
run_of fonts current (placed.Space glue) = record { gap = gap_of_glue glue; count = 0 }

abbrev pub runs_of : SetValue → Current → List PlacedItem → List Run
runs_of fonts current [] = []
runs_of fonts current (h ∷ hs) =
    run_of fonts current h ∷ runs_of fonts (current_after_half current (placed_value h [])) hs
