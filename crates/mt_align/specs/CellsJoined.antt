-- The layouts of cells that are moved to their places, and become one with the top one.
use Rattle.std.specs.Prelude.{ℕ, ◌+◌, ℤ, pos, ◌+ℤ◌, ◌-ℤ◌, List, [], ◌∷◌}
use Rattle.std.specs.Int.{int_max}
use Rattle.mt_scaled.specs.Number.{half_of}
use Rattle.mt_family.specs.declared.size.Size.{Size}
use Rattle.mt_family.specs.SetValue.{SetValue}
use Rattle.mt_box.specs.declared.extents.Extents.{Extents}
use Rattle.mt_box.specs.declared.place.Place.{Place}
use Rattle.mt_box.specs.marks.Layers.{joined, moved_layer}
use Rattle.mt_rules.specs.Parameters.{axis_height}
use Rattle.mt_align.specs.declared.look.Look.{Look}
use Rattle.mt_align.specs.Looks.{inset_of}

-- cells from column j on, which begins at x, in front of the top one; their baseline is at y
abbrev pub cells_joined : Look → ℤ → ℤ → ℕ → ℤ → List ℤ → List Extents → List (List Place) → List (List Place)
cells_joined look gap y j x widths [] ls = ls
cells_joined look gap y j x [] (c ∷ cs) ls = ls
cells_joined look gap y j x (w ∷ ws) (c ∷ cs) ls =
    joined (moved_layer 1 (x +ℤ inset_of look j (w -ℤ c.width)) y (cells_joined look gap y (j + 1) (x +ℤ (w +ℤ gap)) ws cs ls))

-- all rows, whose baselines are so far below the top; this is at y
abbrev pub rows_joined : Look → ℤ → ℤ → List ℤ → List ℤ → List (List Extents) → List (List Place) → List (List Place)
rows_joined look gap y widths [] rows ls = ls
rows_joined look gap y widths (d ∷ ds) [] ls = ls
rows_joined look gap y widths (d ∷ ds) (cells ∷ rows) ls =
    cells_joined look gap (y -ℤ d) 0 (pos 0) widths cells (rows_joined look gap y widths ds rows ls)

-- a table of this width that reaches so far from its top to its bottom: half of it is above the axis
abbrev pub table_reach : SetValue → Size → ℤ → ℤ → Extents
table_reach fonts size width total =
    let height = axis_height fonts size +ℤ half_of total in
    record { width = int_max (pos 0) width; height = height; depth = total -ℤ height }
