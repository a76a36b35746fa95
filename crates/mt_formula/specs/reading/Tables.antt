-- Tables of which some cells and rows are read (`after_cells`, `after_rows`).
use Rattle.std.specs.Prelude.{◌≡◌, map, ◌∷◌, ◌++◌, ℕ, Bool, true, false, List, [], None, Result, Ok, Err}
use Rattle.mt_token.specs.declared.token.Token.{Token}
use Rattle.mt_scaled.specs.declared.unit.Units.{Units}
use Rattle.mt_plain.specs.CodeTables.{CodeTables}
use Rattle.mt_rules.specs.Sequence.{Sequence, Rows, TableGrid, End, NoRows, MoreRows, NoTableRows, MoreTableRows}
use Rattle.mt_arena.specs.Arena.{ArenaValue, CellsHeld, Extends}
use Rattle.mt_scan.specs.declared.role.Preamble.{Preamble}
use Rattle.mt_scan.specs.declared.scanned.Scanned.{Scanned}
use Rattle.mt_scan.specs.Parts.{Read, Got, then_read}
use Rattle.mt_formula.specs.declared.actions.table_form.Column.{Column}
use Rattle.mt_formula.specs.declared.actions.table_form.TableStep.{TableStep}
use Rattle.mt_formula.specs.declared.actions.table_form.TableStep.TheVariants.{NextCell, NextRow, Closes}
use Rattle.mt_formula.specs.declared.reading.ends.Ending.TheVariants.{AtCell}
use Rattle.mt_formula.specs.declared.reading.stop.Stop.{Stop}
use Rattle.mt_formula.specs.Lists.{ItemRunReader, list_after, then_give}
use Rattle.mt_formula.specs.Tables.{CellsAndRows, CellsReader, cell_and_more, cell_end, cell_start, first_column}
use Rattle.mt_formula.specs.reading.Reads.{AddsRow}
use Rattle.mt_formula.specs.reading.Stops.{HasFault}

-- rows, and then others
abbrev pub append_rows : Rows → Rows → Rows
append_rows NoRows more = more
append_rows (MoreRows first rest) more = MoreRows first (append_rows rest more)

-- rows of a table, and then others
abbrev pub append_grid : TableGrid → TableGrid → TableGrid
append_grid NoTableRows more = more
append_grid (MoreTableRows cells rest) more = MoreTableRows cells (append_grid rest more)

-- the row ends
abbrev pub ends_row : TableStep → Bool
ends_row (NextCell column) = false
ends_row _ = true

module _ (more : CellsReader) (preamble : Preamble) where
  -- the cells of a row after these of it, and the rows after it
  abbrev pub after_cells : Rows → TableStep → List Token → Read CellsAndRows
  after_cells done (NextCell column) rest =
      then_give (more column rest) (λ others. record { cells = append_rows done others.cells; rows = others.rows })
  after_cells done NextRow rest =
      then_give (more (first_column preamble) rest) (λ others. record { cells = done; rows = MoreTableRows others.cells others.rows })
  after_cells done Closes rest = Got (record { cells = done; rows = NoTableRows }) rest

  -- the rows of a table after these
  abbrev pub after_rows : TableGrid → TableStep → List Token → Read TableGrid
  after_rows done NextRow rest =
      then_give (more (first_column preamble) rest) (λ others. append_grid done (MoreTableRows others.cells others.rows))
  after_rows done _ rest = Got done rest

module _ (tables : CodeTables) (units : Units) (again : ItemRunReader) (level : ℕ) (preamble : Preamble) where
  -- a cell and what follows it
  abbrev pub cell_on : CellsReader → Column → List Token → Read CellsAndRows
  cell_on more column tokens =
      then_read (list_after tables units again End (cell_start column) AtCell level None tokens) (cell_end tables more preamble column)

  -- a cell is read, and is behind the cells that the innermost open list has
  abbrev pub ReadsCell : {T : Type 0} → (T → Token) → Result (Scanned TableStep T) Stop → ArenaValue → ArenaValue → Column → List Token → Type 0
  ReadsCell token (Ok step) old new column tokens =
      (list : Sequence) × AddsRow old new list × ((more : CellsReader) → cell_on more column tokens ≡ cell_and_more more preamble list step.value (map token step.rest.now))
  ReadsCell token (Err stop) old new column tokens = (more : CellsReader) → HasFault stop (cell_on more column tokens)

-- the cells of a row are read, and are behind the rows that the innermost open list has
pub record AddsCells (old new : ArenaValue) (cells : Rows) : Type 0 where
  pub front : Extends old.closed new.closed
  pub top : new.top ≡ old.top ++ CellsHeld cells ∷ []
  pub below : new.below ≡ old.below

abbrev pub ReadsCells : {T : Type 0} → (T → Token) → CellsReader → Preamble → Result (Scanned TableStep T) Stop → ArenaValue → ArenaValue → List Token → Type 0
ReadsCells token more preamble (Ok step) old new tokens =
    (cells : Rows) × AddsCells old new cells × (more (first_column preamble) tokens ≡ after_cells more preamble cells step.value (map token step.rest.now))
ReadsCells token more preamble (Err stop) old new tokens = HasFault stop (more (first_column preamble) tokens)
