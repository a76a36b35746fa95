-- Cells in rows and columns, centred on the axis: matrices (`matrix_table`), and equations one below another (`equations_table`). The rules
-- are this program's own, and follow plain TeX's \matrix and \eqalign (The TeXbook, chapters 18 and 19 and Appendix B).
use Rattle.std.specs.Prelude.{ℕ, ℤ, pos, ◌+ℤ◌, ◌-ℤ◌, int_lt, List, [], ◌∷◌, ◌++◌, get_or, Ok, if◌then◌else◌}
use Rattle.std.specs.Int.{int_max}
use Rattle.mt_scaled.specs.Number.{half_of}
use Rattle.mt_family.specs.declared.size.Size.{Size}
use Rattle.mt_family.specs.SetValue.{SetValue}
use Rattle.mt_family.specs.Sets.{units_of}
use Rattle.mt_box.specs.declared.place.Place.{Place}
use Rattle.mt_box.specs.declared.extents.Extents.{Extents}
use Rattle.mt_box.specs.Layout.{Layout, all_moved}
use Rattle.mt_rules.specs.Setting.{Setting, ◌>>=◌, make_box}
use Rattle.mt_rules.specs.Parameters.{axis_height}
use Rattle.mt_rules.specs.Vcenter.{line_gap}

-- the cells of a row, from left to right
abbrev pub Cells : Type 0
Cells = List Layout

-- ---- columns

-- the widths of columns that have got one more row of cells
abbrev pub widened : List ℤ → Cells → List ℤ
widened widths [] = widths
widened [] (c ∷ cs) = c.extents.width ∷ widened [] cs
widened (w ∷ ws) (c ∷ cs) = int_max w c.extents.width ∷ widened ws cs

-- each column is as wide as its widest cell, even if that width is negative
abbrev pub column_widths : List Cells → List ℤ
column_widths [] = []
column_widths (cells ∷ rows) = widened (column_widths rows) cells

-- of a column without cells 0
abbrev pub column_width : List Cells → ℕ → ℤ
column_width rows j = get_or (column_widths rows) j (pos 0)

-- ---- rows

abbrev pub cells_height : Cells → ℤ
cells_height [] = pos 0
cells_height (c ∷ cs) = int_max c.extents.height (cells_height cs)

abbrev pub cells_depth : Cells → ℤ
cells_depth [] = pos 0
cells_depth (c ∷ cs) = int_max c.extents.depth (cells_depth cs)

-- each row is tested, in order
abbrev pub make_rows : List Layout → Setting (List Layout)
make_rows [] = Ok []
make_rows (l ∷ ls) = do
  row ← make_box l
  rows ← make_rows ls
  Ok (row ∷ rows)

-- rows one below another, where this is the gap between a row of a depth and one of a height
module _ (gap : ℤ → ℤ → ℤ) where
  -- how far rows after one of this depth reach below it
  abbrev pub rows_drop : ℤ → List Layout → ℤ
  rows_drop depth [] = pos 0
  rows_drop depth (l ∷ ls) =
      gap depth l.extents.height +ℤ (l.extents.height +ℤ (l.extents.depth +ℤ rows_drop l.extents.depth ls))

  -- their places, where the bottom of that one is at y
  abbrev pub rows_places : ℤ → ℤ → List Layout → List Place
  rows_places y depth [] = []
  rows_places y depth (l ∷ ls) =
      let baseline = (y -ℤ gap depth l.extents.height) -ℤ l.extents.height in
      all_moved (pos 0) baseline l.places ++ rows_places (baseline -ℤ l.extents.depth) l.extents.depth ls

-- ---- matrices

-- the struts of a matrix are in its first column, and have no width
abbrev pub with_struts : List ℤ → List ℤ
with_struts [] = []
with_struts (w ∷ ws) = int_max (pos 0) w ∷ ws

-- the columns and the gaps between them
abbrev pub columns_width : ℤ → List ℤ → ℤ
columns_width gap [] = pos 0
columns_width gap (w ∷ []) = w
columns_width gap (w ∷ v ∷ ws) = w +ℤ (gap +ℤ columns_width gap (v ∷ ws))

-- cells, each in the middle of its column, where the first of these columns begins at x
abbrev pub centred_places : ℤ → ℤ → List ℤ → Cells → List Place
centred_places gap x widths [] = []
centred_places gap x [] (c ∷ cs) = []
centred_places gap x (w ∷ ws) (c ∷ cs) =
    all_moved (x +ℤ half_of (w -ℤ c.extents.width)) (pos 0) c.places ++ centred_places gap (x +ℤ (w +ℤ gap)) ws cs

abbrev pub matrix_row : ℤ → List ℤ → Cells → Layout
matrix_row gap widths cells = record {
  extents = record { width = columns_width gap widths; height = cells_height cells; depth = cells_depth cells };
  places = centred_places gap (pos 0) widths cells;
}

abbrev pub matrix_rows : ℤ → List ℤ → List Cells → List Layout
matrix_rows gap widths [] = []
matrix_rows gap widths (cells ∷ rows) = matrix_row gap widths cells ∷ matrix_rows gap widths rows

-- a table without rows has no width
abbrev pub rows_width : ℤ → List Layout → ℤ
rows_width width [] = pos 0
rows_width width (l ∷ ls) = int_max (pos 0) width

abbrev pub strut_line : Extents → Layout
strut_line strut = record { extents = strut; places = [] }

-- 12pt back up, behind a strut
abbrev pub strut_drop : Extents → ℤ
strut_drop strut = (strut.height +ℤ strut.depth) -ℤ pos 786432

-- downward a strut and 12pt back up, the rows, a strut and 12pt back up
abbrev pub matrix_drop : Extents → List Layout → ℤ
matrix_drop strut rows =
    strut_drop strut +ℤ (rows_drop line_gap strut.depth (rows ++ strut_line strut ∷ []) -ℤ pos 786432)

abbrev pub matrix_layout : ℤ → Extents → ℤ → List Layout → Layout
matrix_layout axis strut width rows =
    let total = matrix_drop strut rows in
    let height = axis +ℤ half_of total in
    record {
      extents = record { width = rows_width width rows; height = height; depth = total -ℤ height };
      places = rows_places line_gap (height -ℤ strut_drop strut) strut.depth rows;
    }

-- the columns are a quad apart
unfoldable pub matrix_table : SetValue → Size → Extents → List Cells → Setting Layout
matrix_table fonts size strut cells = do
  let em = (units_of fonts).em
  let widths = with_struts (column_widths cells)
  rows ← make_rows (matrix_rows em widths cells)
  make_box (matrix_layout (axis_height fonts size) strut (columns_width em widths) rows)

-- ---- rows one below another, as equations are

-- from the bottom of a row of this depth to the top of the next one: baselines are 15pt apart, but where the gap would be less than 3pt,
-- it is 4pt (plain TeX's \openup\jot)
abbrev pub open_gap : ℤ → ℤ → ℤ
open_gap depth height =
    let gap = (pos 983040 -ℤ depth) -ℤ height in
    if int_lt gap (pos 196608) then pos 262144 else gap

-- from the top of the first row to the bottom of the last
abbrev pub open_drop : List Layout → ℤ
open_drop [] = pos 0
open_drop (l ∷ ls) = l.extents.height +ℤ (l.extents.depth +ℤ rows_drop open_gap l.extents.depth ls)

-- their places, the first one's top at y
abbrev pub open_places : ℤ → List Layout → List Place
open_places y [] = []
open_places y (l ∷ ls) =
    let baseline = y -ℤ l.extents.height in
    all_moved (pos 0) baseline l.places ++ rows_places open_gap (baseline -ℤ l.extents.depth) l.extents.depth ls

-- ---- equations

-- the left side ends where the right side begins, at the first column's width
abbrev pub sides_places : ℤ → Cells → List Place
sides_places first [] = []
sides_places first (a ∷ []) = all_moved (first -ℤ a.extents.width) (pos 0) a.places
sides_places first (a ∷ b ∷ cs) = all_moved (first -ℤ a.extents.width) (pos 0) a.places ++ all_moved first (pos 0) b.places

-- each row has a strut, 8.5pt high and 3.5pt deep
abbrev pub equations_row : ℤ → ℤ → Cells → Layout
equations_row first second cells = record {
  extents = record {
    width = first +ℤ second;
    height = int_max (pos 557056) (cells_height cells);
    depth = int_max (pos 229376) (cells_depth cells);
  };
  places = sides_places first cells;
}

abbrev pub equations_rows : ℤ → ℤ → List Cells → List Layout
equations_rows first second [] = []
equations_rows first second (cells ∷ rows) = equations_row first second cells ∷ equations_rows first second rows

abbrev pub equations_layout : ℤ → ℤ → List Layout → Layout
equations_layout axis width rows =
    let total = open_drop rows in
    let height = axis +ℤ half_of total in
    record {
      extents = record { width = rows_width width rows; height = height; depth = total -ℤ height };
      places = open_places height rows;
    }

unfoldable pub equations_table : SetValue → Size → List Cells → Setting Layout
equations_table fonts size cells = do
  let first = column_width cells 0
  let second = column_width cells 1
  rows ← make_rows (equations_rows first second cells)
  make_box (equations_layout (axis_height fonts size) (first +ℤ second) rows)
