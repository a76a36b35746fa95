-- What an item, a part, rows and a table of a modest list keep (`IsModestElement`, `IsModestPart`, `IsModestRows`,
-- `IsModestGrid`).
use Rattle.std.specs.Prelude.{◌≤◌, ◌^◌}
use Rattle.mt_rules.specs.Sequence.{Element, Part, Rows, TableGrid}
use Rattle.mt_rules.specs.Modest.{element_items, element_nesting, ElementAmounts, part_items, part_nesting, PartAmounts, rows_items, rows_nesting, RowsAmounts, grid_items, grid_nesting, GridAmounts}

pub record IsModestElement (element : Element) : Type 0 where
  pub nesting : element_nesting element ≤ 320
  pub items : element_items element ≤ 2 ^ 18
  pub amounts : ElementAmounts element

-- a list in it is in another list
pub record IsModestPart (part : Part) : Type 0 where
  pub nesting : part_nesting part ≤ 319
  pub items : part_items part ≤ 2 ^ 18
  pub amounts : PartAmounts part

pub record IsModestRows (rows : Rows) : Type 0 where
  pub nesting : rows_nesting rows ≤ 319
  pub items : rows_items rows ≤ 2 ^ 18
  pub amounts : RowsAmounts rows

pub record IsModestGrid (grid : TableGrid) : Type 0 where
  pub nesting : grid_nesting grid ≤ 319
  pub items : grid_items grid ≤ 2 ^ 18
  pub amounts : GridAmounts grid
