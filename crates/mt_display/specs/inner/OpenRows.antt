-- Rows one below another as entries of a column (`row_entries`).
use Rattle.std.specs.Prelude.{ℤ, pos, List, [], ◌∷◌, Option, Some, None}
use Rattle.mt_scaled.specs.declared.length.Length.{Length}
use Rattle.mt_box.specs.Layout.{Layout}
use Rattle.mt_box.specs.Columns.{EntryValue, EntryBox, EntryKern}
use Rattle.mt_rules.specs.Tables.{open_gap}

abbrev pub depth_value : Option Length → Option ℤ
depth_value None = None
depth_value (Some depth) = Some depth.sp

-- and 0 above the first row
abbrev pub depth_or_0 : Option ℤ → ℤ
depth_or_0 None = pos 0
depth_or_0 (Some depth) = depth

-- the gap before a row of this height, after one of this depth; the first row has none
abbrev pub gap_before : Option ℤ → ℤ → ℤ
gap_before None height = pos 0
gap_before (Some depth) height = open_gap depth height

-- the rows after one of this depth, each after its gap
abbrev pub row_entries : Option ℤ → List Layout → List EntryValue
row_entries depth [] = []
row_entries depth (l ∷ ls) =
    EntryKern (gap_before depth l.extents.height) ∷ EntryBox (pos 0) l
    ∷ row_entries (Some l.extents.depth) ls

-- what gives a column without rows its width: as wide as the line, and nothing else
abbrev pub strut : ℤ → Layout
strut width = record { extents = record { width = width; height = pos 0; depth = pos 0 }; places = [] }

-- the depth of the last of these rows, or of the one above them, where there is any
abbrev pub last_after : Option ℤ → List Layout → ℤ
last_after depth [] = depth_or_0 depth
last_after depth (l ∷ ls) = last_after (Some l.extents.depth) ls
