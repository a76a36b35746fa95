-- A row of cells, each in its column (`cells_row`).
use Rattle.std.specs.Prelude.{ℕ, ◌+◌, ℤ, pos, ◌+ℤ◌, ◌-ℤ◌, List, [], ◌∷◌, ◌++◌}
use Rattle.std.specs.Int.{int_max}
use Rattle.mt_box.specs.declared.place.Place.{Place}
use Rattle.mt_box.specs.Layout.{Layout, all_moved}
use Rattle.mt_rules.specs.Tables.{Cells, cells_height, cells_depth}
use Rattle.mt_align.specs.declared.look.Look.{Look}
use Rattle.mt_align.specs.Looks.{inset_of, least_height, least_depth}

-- cells from column j on, which begins at x
abbrev pub cells_places : Look → ℤ → ℕ → ℤ → List ℤ → Cells → List Place
cells_places look gap j x widths [] = []
cells_places look gap j x [] (c ∷ cs) = []
cells_places look gap j x (w ∷ ws) (c ∷ cs) =
    all_moved (x +ℤ inset_of look j (w -ℤ c.extents.width)) (pos 0) c.places ++ cells_places look gap (j + 1) (x +ℤ (w +ℤ gap)) ws cs

-- a row as wide as the table, at least as high and as deep as rows of its look are
abbrev pub cells_row : Look → ℤ → ℤ → List ℤ → Cells → Layout
cells_row look gap width widths cells = record {
  extents = record {
    width = width;
    height = int_max (least_height look) (cells_height cells);
    depth = int_max (least_depth look) (cells_depth cells);
  };
  places = cells_places look gap 0 (pos 0) widths cells;
}

abbrev pub cells_rows : Look → ℤ → ℤ → List ℤ → List Cells → List Layout
cells_rows look gap width widths [] = []
cells_rows look gap width widths (cells ∷ rows) = cells_row look gap width widths cells ∷ cells_rows look gap width widths rows

-- how wide columns are, with a gap behind each
abbrev pub columns_reach : ℤ → List ℤ → ℤ
columns_reach gap [] = pos 0
columns_reach gap (w ∷ ws) = (w +ℤ gap) +ℤ columns_reach gap ws
