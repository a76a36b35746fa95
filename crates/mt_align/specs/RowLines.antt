-- The rows of a table one below another: where their baselines are (`line_drops`), how far they reach downward (`lines_end`), and their
-- places (`lines_places`).
use Rattle.std.specs.Prelude.{ℤ, pos, ◌+ℤ◌, ◌-ℤ◌, ◌++◌, List, [], ◌∷◌, Option, Some, None}
use Rattle.std.specs.Int.{int_max}
use Rattle.mt_scaled.specs.declared.length.Length.{Length}
use Rattle.mt_box.specs.declared.extents.Extents.{Extents}
use Rattle.mt_box.specs.declared.place.Place.{Place}
use Rattle.mt_box.specs.Layout.{Layout, all_moved}
use Rattle.mt_rules.specs.Tables.{Cells, cells_height, cells_depth, strut_drop}
use Rattle.mt_align.specs.declared.look.Look.{Look}
use Rattle.mt_align.specs.declared.look.Look.TheVariants.{Matrix}
use Rattle.mt_align.specs.Looks.{least_height, least_depth, gap_of}

-- the gap before a row of this height, after one of this depth, if there is one
abbrev pub gap_before : Look → Option ℤ → ℤ → ℤ
gap_before look None height = pos 0
gap_before look (Some depth) height = gap_of look depth height

abbrev pub depth_value : Option Length → Option ℤ
depth_value None = None
depth_value (Some depth) = Some depth.sp

-- a row is at least as high and as deep as rows of its look are
abbrev pub line_height : Look → Cells → ℤ
line_height look cells = int_max (least_height look) (cells_height cells)

abbrev pub line_depth : Look → Cells → ℤ
line_depth look cells = int_max (least_depth look) (cells_depth cells)

-- how far baselines are below the top, where the rows begin at y after one of this depth
abbrev pub line_drops : Look → ℤ → Option ℤ → List Cells → List ℤ
line_drops look y depth [] = []
line_drops look y depth (cells ∷ rows) =
    let drop = y +ℤ (gap_before look depth (line_height look cells) +ℤ line_height look cells) in
    drop ∷ line_drops look (drop +ℤ line_depth look cells) (Some (line_depth look cells)) rows

-- how far below the top the last of these rows ends
abbrev pub lines_end : Look → ℤ → Option ℤ → List Cells → ℤ
lines_end look y depth [] = y
lines_end look y depth (cells ∷ rows) =
    lines_end look ((y +ℤ (gap_before look depth (line_height look cells) +ℤ line_height look cells)) +ℤ line_depth look cells) (Some (line_depth look cells)) rows

-- the depth of the last row
abbrev pub last_depth : Look → Option ℤ → List Cells → Option ℤ
last_depth look depth [] = depth
last_depth look depth (cells ∷ rows) = last_depth look (Some (line_depth look cells)) rows

-- a strut and 12pt back up, the rows, a strut and 12pt back up
abbrev pub matrix_end : Extents → List Cells → ℤ
matrix_end strut rows =
    lines_end Matrix (strut_drop strut) (Some strut.depth) rows
    +ℤ (gap_before Matrix (last_depth Matrix (Some strut.depth) rows) strut.height +ℤ strut_drop strut)

-- the places of rows after one of this depth, whose bottom is at y
abbrev pub lines_places : Look → ℤ → Option ℤ → List Layout → List Place
lines_places look y depth [] = []
lines_places look y depth (l ∷ ls) =
    let baseline = (y -ℤ gap_before look depth l.extents.height) -ℤ l.extents.height in
    all_moved (pos 0) baseline l.places ++ lines_places look (baseline -ℤ l.extents.depth) (Some l.extents.depth) ls
