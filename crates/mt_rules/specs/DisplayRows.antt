-- Displays of several lines: equations with numbers (`equations_line`), and rows in the middle (`rows_line`). All rows are one line of the
-- page, as wide as a line is. The rules are this program's own, and follow plain TeX's \eqalignno, \leqalignno and \displaylines (The
-- TeXbook, chapter 19 and Appendix B).
use Rattle.std.specs.Prelude.{ℤ, pos, ◌+ℤ◌, ◌-ℤ◌, Bool, List, [], ◌∷◌, ◌++◌, map, if◌then◌else◌}
use Rattle.std.specs.Int.{int_max}
use Rattle.mt_scaled.specs.Number.{half_of}
use Rattle.mt_box.specs.Layout.{Layout, all_moved}
use Rattle.mt_rules.specs.Setting.{Setting, make_box}
use Rattle.mt_rules.specs.Tables.{Cells, cells_height, cells_depth, column_width, open_drop, open_places}

-- the cells of an equation, packed; an absent one is empty
pub record EquationLayout : Type 0 where
  pub first : Layout
  pub second : Layout
  pub number : Layout

-- half of what is left of the line, and at least 0
abbrev pub margin : ℤ → ℤ
margin room = int_max (pos 0) (half_of room)

-- the depth of the last row, and 0 without rows
abbrev pub last_depth : List Layout → ℤ
last_depth [] = pos 0
last_depth (l ∷ []) = l.extents.depth
last_depth (l ∷ m ∷ ls) = last_depth (m ∷ ls)

-- rows one below another; the last one's baseline is that of the whole
abbrev pub stacked_rows : ℤ → List Layout → Layout
stacked_rows width rows =
    let height = open_drop rows -ℤ last_depth rows in
    record {
      extents = record { width = width; height = height; depth = last_depth rows };
      places = open_places height rows;
    }

-- ---- equations

abbrev pub equation_sides : EquationLayout → Cells
equation_sides e = e.first ∷ e.second ∷ []

abbrev pub equation_cells : EquationLayout → Cells
equation_cells e = e.first ∷ e.second ∷ e.number ∷ []

-- both columns together are in the middle of the line; between them is this place
abbrev pub equations_axis : ℤ → List EquationLayout → ℤ
equations_axis width rows =
    let first = column_width (map equation_sides rows) 0 in
    let second = column_width (map equation_sides rows) 1 in
    margin ((width -ℤ first) -ℤ second) +ℤ first

-- where a number of a width is: at the left end of the line, or with its own end at the right one
abbrev pub number_place : ℤ → Bool → ℤ → ℤ
number_place width left number = if left then pos 0 else width -ℤ number

-- the left side ends at x, where the right side begins
abbrev pub equation_row : ℤ → ℤ → Bool → EquationLayout → Layout
equation_row width x left e = record {
  extents = record { width = width; height = cells_height (equation_cells e); depth = cells_depth (equation_cells e) };
  places = all_moved (x -ℤ e.first.extents.width) (pos 0) e.first.places
      ++ (all_moved x (pos 0) e.second.places
      ++ all_moved (number_place width left e.number.extents.width) (pos 0) e.number.places);
}

abbrev pub equation_rows : ℤ → Bool → List EquationLayout → List Layout
equation_rows width left rows = map (equation_row width (equations_axis width rows) left) rows

unfoldable pub equations_line : List EquationLayout → Bool → ℤ → Setting Layout
equations_line rows left width = make_box (stacked_rows width (equation_rows width left rows))

-- ---- rows

-- a row in the middle of the line
abbrev pub centred_row : ℤ → Layout → Layout
centred_row width l = record {
  extents = record { width = width; height = cells_height (l ∷ []); depth = cells_depth (l ∷ []) };
  places = all_moved (margin (width -ℤ l.extents.width)) (pos 0) l.places;
}

unfoldable pub rows_line : List Layout → ℤ → Setting Layout
rows_line rows width = make_box (stacked_rows width (map (centred_row width) rows))
