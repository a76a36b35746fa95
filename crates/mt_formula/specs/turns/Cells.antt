-- What the end of a cell takes of the tokens (`after_cell_takes`).
use Rattle.std.proofs.Common.{ℕ, ◌+◌, ◌*◌, ◌≤◌, List, [], ◌∷◌, length, Option, Some, None, arith}
use Rattle.mt_token.specs.declared.token.Token.{Token}
use Rattle.mt_plain.specs.CodeTables.{CodeTables}
use Rattle.mt_scan.specs.declared.role.Preamble.{Preamble}
use Rattle.mt_scan.specs.declared.role.Role.{Role}
use Rattle.mt_scan.specs.declared.role.Role.TheVariants.{CloseBrace, Tab, CrWord}
use Rattle.mt_scan.specs.Role.{role_of, is_close_brace}
use Rattle.mt_scan.specs.Parts.{Got, after_spaces}
use Rattle.mt_formula.specs.declared.actions.table_form.Column.{Column}
use Rattle.mt_formula.specs.declared.actions.table_form.TableStep.{TableStep}
use Rattle.mt_formula.specs.declared.actions.table_form.TableStep.TheVariants.{NextRow, Closes}
use Rattle.mt_formula.specs.Tables.{next_column, row_or_end, next_cell, after_cell_at, after_cell}
use Rattle.mt_scan.specs.turns.Short.{Within, within_if, within_more, none, Shortens, spaces_short}

abbrev pub four : TableStep → ℕ
four step = 4

module _ (tables : CodeTables) where
  pub row_or_end_short : (ts : List Token) → Shortens ts (row_or_end tables ts)
  row_or_end_short [] = omega arith
  row_or_end_short (t ∷ rest) = within_if none (4 * length (t ∷ rest)) (is_close_brace (role_of tables t)) (Got Closes rest) (Got NextRow (t ∷ rest)) (omega arith) (omega arith)

  next_cell_takes : (column : Option Column) (rest : List Token) → Within four (4 * length rest + 4) (next_cell column rest)
  next_cell_takes None rest = tt
  next_cell_takes (Some column) rest = omega arith

  row_or_end_takes : (ts rest : List Token) → length ts ≤ length rest → Within four (4 * length rest + 4) (row_or_end tables ts)
  row_or_end_takes [] rest h = omega (arith, h)
  row_or_end_takes (t ∷ ts) rest h = within_if four (4 * length rest + 4) (is_close_brace (role_of tables t)) (Got Closes ts) (Got NextRow (t ∷ ts)) (omega (arith, h)) (omega (arith, h))

  after_cell_at_takes : (preamble : Preamble) (column : Column) (rest : List Token) (role : Role) → Within four (4 * length rest + 4) (after_cell_at tables preamble column rest role)
  after_cell_at_takes preamble column rest Tab = next_cell_takes (next_column preamble column) rest
  after_cell_at_takes preamble column rest CrWord = row_or_end_takes (after_spaces rest) rest (spaces_short rest)
  after_cell_at_takes preamble column rest CloseBrace = omega arith
  after_cell_at_takes preamble column rest _ = tt

  -- the token at the end of a cell is taken
  pub after_cell_takes : (preamble : Preamble) (column : Column) (ts : List Token) → Within four (4 * length ts) (after_cell tables preamble column ts)
  after_cell_takes preamble column [] = tt
  after_cell_takes preamble column (t ∷ rest) = within_more four (4 * length rest + 4) (4 * length (t ∷ rest)) (after_cell_at tables preamble column rest (role_of tables t)) (omega arith) (after_cell_at_takes preamble column rest (role_of tables t))
