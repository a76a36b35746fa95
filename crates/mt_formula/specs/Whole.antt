-- Readers that count no turns: each list, and each part of one, is read by as many as it may want.
use Rattle.std.specs.Prelude.{ℕ, suc, List, length, Option}
use Rattle.mt_token.specs.declared.token.Token.{Token}
use Rattle.mt_scaled.specs.declared.unit.Units.{Units}
use Rattle.mt_plain.specs.CodeTables.{CodeTables}
use Rattle.mt_scan.specs.declared.role.Preamble.{Preamble}
use Rattle.mt_formula.specs.declared.actions.table_form.Column.{Column}
use Rattle.mt_formula.specs.Atoms.{AtomValue}
use Rattle.mt_formula.specs.Lists.{ItemRunReader}
use Rattle.mt_formula.specs.Rows.{RowsReader, rows_from}
use Rattle.mt_formula.specs.Tables.{CellsReader, cells_from}
use Rattle.mt_formula.specs.Rules.{Readers, readers}

module _ (tables : CodeTables) (units : Units) where
  -- a turn for each token of the list, and one for its end
  abbrev pub whole_readers : Readers
  whole_readers = record {
    tail = λ (level : ℕ) (family : Option ℕ) (atom : AtomValue) (tokens : List Token).
        (readers tables units (suc (length tokens))).tail level family atom tokens;
    items = λ (level : ℕ) (family : Option ℕ) (tokens : List Token).
        (readers tables units (suc (length tokens))).items level family tokens;
  }

  module _ (again : ItemRunReader) where
    -- a turn for each row, of which each takes a token, and one more
    abbrev pub whole_rows : ℕ → RowsReader tables units again
    whole_rows level = λ (tokens : List Token). rows_from tables units again (suc (length tokens)) level tokens

    -- a turn for each cell, of which each takes a token, and one more
    abbrev pub whole_cells : ℕ → Preamble → CellsReader
    whole_cells level preamble =
        λ (column : Column) (tokens : List Token). cells_from tables units again (suc (length tokens)) level preamble column tokens
