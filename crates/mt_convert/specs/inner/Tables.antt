-- The strut of a matrix (`tested_glyph`), and the cells of a row that have a column (`has_column`), as lists (`rows_in_columns`).
use Rattle.std.specs.Prelude.{ℕ, zero, suc, Bool, true, false, Ok}
use Rattle.mt_tfm.specs.Font.{Metrics}
use Rattle.mt_box.specs.declared.extents.Extents.{Extents}
use Rattle.mt_rules.specs.declared.list.Look.{Look}
use Rattle.mt_rules.specs.declared.list.Look.TheVariants.{Matrix, Equations}
use Rattle.mt_rules.specs.Sequence.{Rows, NoRows, MoreRows}
use Rattle.mt_rules.specs.Setting.{Setting, ◌>>◌, test_extents}
use Rattle.mt_rules.specs.Symbols.{extents_without_italic}

-- the extents of a character of a font, tested
abbrev pub tested_glyph : Metrics → ℕ → Setting Extents
tested_glyph m c = test_extents (extents_without_italic m c) >> Ok (extents_without_italic m c)

-- whether the cells of a row have a column of this number: equations have two
abbrev pub has_column : Look → ℕ → Bool
has_column Matrix n = true
has_column Equations zero = true
has_column Equations (suc zero) = true
has_column Equations (suc (suc n)) = false

abbrev pub rows_in_columns : Look → Rows → Rows
rows_in_columns Matrix cells = cells
rows_in_columns Equations NoRows = NoRows
rows_in_columns Equations (MoreRows left NoRows) = MoreRows left NoRows
rows_in_columns Equations (MoreRows left (MoreRows right more)) = MoreRows left (MoreRows right NoRows)

-- those that have a column, where so many came before
abbrev pub columns_from : Look → ℕ → Rows → Rows
columns_from Matrix n rows = rows
columns_from Equations zero rows = rows_in_columns Equations rows
columns_from Equations (suc zero) NoRows = NoRows
columns_from Equations (suc zero) (MoreRows s rows) = MoreRows s NoRows
columns_from Equations (suc (suc n)) rows = NoRows
