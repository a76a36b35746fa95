-- Lists between boundaries, rows and cells are read by their rules, whatever turns are counted (`whole_segments`, `rows_turn`, `cells_turn`).
use Rattle.std.proofs.Common.{◌≡◌, ℕ, zero, suc, ◌+◌, ◌*◌, ◌<◌, ◌≤◌, Bool, true, false, List, [], ◌∷◌, length, Option, None, refl, ap, arith}
use Rattle.mt_token.specs.declared.token.Token.{Token}
use Rattle.mt_scaled.specs.declared.unit.Units.{Units}
use Rattle.mt_rules.specs.declared.symbol.Delim.{Delim}
use Rattle.mt_rules.specs.Sequence.{Sequence, Rows, End, More, MiddleElement, NoRows, MoreRows, MoreTableRows}
use Rattle.mt_plain.specs.CodeTables.{CodeTables}
use Rattle.mt_scan.specs.declared.fault.ReadCause.TheVariants.{MissingField}
use Rattle.mt_scan.specs.declared.role.Preamble.{Preamble}
use Rattle.mt_scan.specs.declared.role.Role.{Role}
use Rattle.mt_scan.specs.declared.role.Role.TheVariants.{CloseBrace, HboxWord}
use Rattle.mt_scan.specs.Role.{role_of, is_middle}
use Rattle.mt_scan.specs.Parts.{Read, Got, Fault, NoTurn, then_read, after_spaces}
use Rattle.mt_scan.specs.Delimiters.{scan_delimiter}
use Rattle.mt_formula.specs.declared.reading.ends.Ending.TheVariants.{AtRight, AtCell}
use Rattle.mt_formula.specs.declared.actions.table_form.Column.{Column}
use Rattle.mt_formula.specs.declared.actions.table_form.TableStep.{TableStep}
use Rattle.mt_formula.specs.declared.actions.table_form.TableStep.TheVariants.{NextCell, NextRow, Closes}
use Rattle.mt_formula.specs.Atoms.{append}
use Rattle.mt_formula.specs.Lists.{ItemRunReader, list, list_after}
use Rattle.mt_formula.specs.Groups.{SegmentsReader, after_segment, segment_end, segments_from, segments}
use Rattle.mt_formula.specs.Rows.{row, next_row_at, next_row, rows_here_at, first_rows, later_rows, rows_from, rows}
use Rattle.mt_formula.specs.Tables.{first_column, cell_start, cell_list, row_or_end, after_cell, CellsReader, CellsAndRows, cell_and_more, rows_from_step, cell_end, cells_from, table_rows}
use Rattle.mt_formula.specs.Whole.{whole_rows, whole_cells}
use Rattle.mt_scan.specs.turns.Short.{Within, none, spaces_short, delimiter_short}
use Rattle.mt_formula.specs.turns.Cells.{four, row_or_end_short, after_cell_takes}
use Rattle.mt_formula.specs.turns.Settling.{Settles, RunsSettle, list_settles, list_after_settles, row_settles}

-- after the same part, where it leaves few tokens
then_same : {A B : Type 0} (k : ℕ) (r : Read A) (f g : A → List Token → Read B) → Settles k r → ((part : A) (rest : List Token) → length rest ≤ k → f part rest ≡ g part rest) → then_read r f ≡ then_read r g
then_same k (Got part rest) f g s h = h part rest s
then_same k (Fault cause left) f g s h = refl
then_same k NoTurn f g s h = refl

then_where : {A B : Type 0} (m : A → ℕ) (b : ℕ) (r : Read A) (f g : A → List Token → Read B) → Within m b r → ((part : A) (rest : List Token) → m part + 4 * length rest ≤ b → f part rest ≡ g part rest) → then_read r f ≡ then_read r g
then_where m b (Got part rest) f g w h = h part rest w
then_where m b (Fault cause left) f g w h = refl
then_where m b NoTurn f g w h = refl

after_segment_same : (more others : SegmentsReader) (middle : Bool) (inner : Sequence) (d : Delim) (rest : List Token) → more rest ≡ others rest → after_segment more middle inner d rest ≡ after_segment others middle inner d rest
after_segment_same more others true inner d rest e = ap (λ (r : Read Sequence). then_read r (λ (behind : Sequence) (after : List Token). Got (append inner (More (MiddleElement d) behind)) after)) e
after_segment_same more others false inner d rest e = refl

cell_and_more_same : (more others : CellsReader) (preamble : Preamble) (cell : Sequence) (step : TableStep) (rest : List Token) → ((column : Column) → more column rest ≡ others column rest) → cell_and_more more preamble cell step rest ≡ cell_and_more others preamble cell step rest
cell_and_more_same more others preamble cell (NextCell column) rest h =
    ap (λ (r : Read CellsAndRows). then_read r (λ (o : CellsAndRows) (after : List Token). Got (record { cells = MoreRows cell o.cells; rows = o.rows }) after)) (h column)
cell_and_more_same more others preamble cell NextRow rest h =
    ap (λ (r : Read CellsAndRows). then_read r (λ (o : CellsAndRows) (after : List Token). Got (record { cells = MoreRows cell NoRows; rows = MoreTableRows o.cells o.rows }) after)) (h (first_column preamble))
cell_and_more_same more others preamble cell Closes rest h = refl

rows_from_step_same : (more others : CellsReader) (preamble : Preamble) (step : TableStep) (rest : List Token) → ((column : Column) → more column rest ≡ others column rest) → rows_from_step more preamble step rest ≡ rows_from_step others preamble step rest
rows_from_step_same more others preamble NextRow rest h =
    ap (λ (r : Read CellsAndRows). then_read r (λ (o : CellsAndRows) (after : List Token). Got (MoreTableRows o.cells o.rows) after)) (h (first_column preamble))
rows_from_step_same more others preamble (NextCell column) rest h = refl
rows_from_step_same more others preamble Closes rest h = refl

module _ (tables : CodeTables) (units : Units) (again : ItemRunReader) (settled : (n : ℕ) → RunsSettle n again) where
  -- ---- lists between boundaries
  segment_end_same : (more others : SegmentsReader) (inner : Sequence) (end : List Token) → ((rest : List Token) → length rest < length end → more rest ≡ others rest) → segment_end tables more inner end ≡ segment_end tables others inner end
  segment_end_same more others inner [] h = refl
  segment_end_same more others inner (t ∷ word) h =
      then_where none (4 * length word) (scan_delimiter tables word) (after_segment more (is_middle (role_of tables t)) inner) (after_segment others (is_middle (role_of tables t)) inner) (delimiter_short tables word)
      (λ d rest w. after_segment_same more others (is_middle (role_of tables t)) inner d rest (h rest (omega (arith, w))))

  segments_same : (n m level : ℕ) (family : Option ℕ) (ts : List Token) → length ts < n → length ts < m → segments_from tables units again n level family ts ≡ segments_from tables units again m level family ts
  segments_same zero m level family ts h k = absurd (omega (arith, h))
  segments_same (suc n) zero level family ts h k = absurd (omega (arith, k))
  segments_same (suc n) (suc m) level family ts h k =
      then_same (length ts) (list tables units again AtRight level family ts) (segment_end tables (segments_from tables units again n level family)) (segment_end tables (segments_from tables units again m level family))
      (list_settles tables units (suc (length ts)) again (settled (suc (length ts))) AtRight level family ts (omega arith))
      (λ inner end s. segment_end_same (segments_from tables units again n level family) (segments_from tables units again m level family) inner end
      (λ rest less. segments_same n m level family rest (omega (arith, less, s, h)) (omega (arith, less, s, k))))

  pub whole_segments : (level : ℕ) (family : Option ℕ) (ts : List Token)
      → segments tables units again level family ts ≡ then_read (list tables units again AtRight level family ts) (segment_end tables (segments tables units again level family))
  whole_segments level family ts =
      then_same (length ts) (list tables units again AtRight level family ts) (segment_end tables (segments_from tables units again (length ts + 1) level family)) (segment_end tables (segments tables units again level family))
      (list_settles tables units (suc (length ts)) again (settled (suc (length ts))) AtRight level family ts (omega arith))
      (λ inner end s. segment_end_same (segments_from tables units again (length ts + 1) level family) (segments tables units again level family) inner end
      (λ rest less. segments_same (length ts + 1) (suc (length rest + 1)) level family rest (omega (arith, less, s)) (omega arith)))

  -- ---- rows
  module _ (more others : List Token → Read Rows) where
    next_row_at_same : (rest : List Token) (role : Role) → more rest ≡ others rest → next_row_at tables units again more rest role ≡ next_row_at tables units again others rest role
    next_row_at_same rest HboxWord e = e
    next_row_at_same rest _ e = refl

    next_row_same : (ts : List Token) → ((rest : List Token) → length rest < length ts → more rest ≡ others rest) → next_row tables units again more ts ≡ next_row tables units again others ts
    next_row_same [] h = refl
    next_row_same (t ∷ rest) h = next_row_at_same rest (role_of tables t) (h rest (omega arith))

    rows_here_same : (rest : List Token) (r s : Read Rows) (role : Role) → more rest ≡ others rest → r ≡ s → rows_here_at tables units again more rest r role ≡ rows_here_at tables units again others rest s role
    rows_here_same rest r s CloseBrace e f = refl
    rows_here_same rest r s HboxWord e f = e
    rows_here_same rest r s _ e f = f

    first_rows_same : (ts : List Token) → ((rest : List Token) → length rest < length ts → more rest ≡ others rest) → first_rows tables units again more ts ≡ first_rows tables units again others ts
    first_rows_same [] h = refl
    first_rows_same (t ∷ rest) h = rows_here_same rest (Fault MissingField (length rest + 1)) (Fault MissingField (length rest + 1)) (role_of tables t) (h rest (omega arith)) refl

    later_rows_same : (ts : List Token) → ((rest : List Token) → length rest < length ts → more rest ≡ others rest) → later_rows tables units again more ts ≡ later_rows tables units again others ts
    later_rows_same [] h = refl
    later_rows_same (t ∷ rest) h =
        rows_here_same rest (next_row tables units again more (after_spaces (t ∷ rest))) (next_row tables units again others (after_spaces (t ∷ rest))) (role_of tables t) (h rest (omega arith))
        (next_row_same (after_spaces (t ∷ rest)) (λ left less. h left (omega (arith, less, spaces_short (t ∷ rest)))))

  abbrev one_more : List Token → (List Token → Read Rows) → Sequence → List Token → Read Rows
  one_more ts more inner after = then_read (later_rows tables units again more after) (λ (others : Rows) (rest : List Token). Got (MoreRows inner others) rest)

  one_more_same : (ts : List Token) (more others : List Token → Read Rows) (inner : Sequence) (after : List Token) → ((rest : List Token) → length rest < length after → more rest ≡ others rest) → one_more ts more inner after ≡ one_more ts others inner after
  one_more_same ts more others inner after h = ap (λ (r : Read Rows). then_read r (λ (behind : Rows) (rest : List Token). Got (MoreRows inner behind) rest)) (later_rows_same more others after h)

  rows_same : (n m level : ℕ) (ts : List Token) → length ts < n → length ts < m → rows_from tables units again n level ts ≡ rows_from tables units again m level ts
  rows_same zero m level ts h k = absurd (omega (arith, h))
  rows_same (suc n) zero level ts h k = absurd (omega (arith, k))
  rows_same (suc n) (suc m) level ts h k =
      then_same (length ts) (row tables units again level ts) (one_more ts (rows_from tables units again n level)) (one_more ts (rows_from tables units again m level))
      (row_settles tables units (suc (length ts)) again (settled (suc (length ts))) level ts (omega arith))
      (λ inner after s. one_more_same ts (rows_from tables units again n level) (rows_from tables units again m level) inner after (λ rest less. rows_same n m level rest (omega (arith, less, s, h)) (omega (arith, less, s, k))))

  pub rows_turn : (level : ℕ) (ts : List Token)
      → whole_rows tables units again level ts ≡ then_read (row tables units again level ts) (λ (inner : Sequence) (after : List Token). then_read (later_rows tables units again (whole_rows tables units again level) after) (λ (others : Rows) (rest : List Token). Got (MoreRows inner others) rest))
  rows_turn level ts =
      then_same (length ts) (row tables units again level ts) (one_more ts (rows_from tables units again (length ts) level)) (one_more ts (whole_rows tables units again level))
      (row_settles tables units (suc (length ts)) again (settled (suc (length ts))) level ts (omega arith))
      (λ inner after s. one_more_same ts (rows_from tables units again (length ts) level) (whole_rows tables units again level) inner after (λ rest less. rows_same (length ts) (suc (length rest)) level rest (omega (arith, less, s)) (omega arith)))

  pub rows_begin : (level : ℕ) (ts : List Token) → rows tables units again level ts ≡ first_rows tables units again (whole_rows tables units again (level + 1)) ts
  rows_begin level ts = first_rows_same (rows_from tables units again (length ts) (level + 1)) (whole_rows tables units again (level + 1)) ts (λ rest less. rows_same (length ts) (suc (length rest)) (level + 1) rest less (omega arith))

  -- ---- tables
  cell_end_same : (more others : CellsReader) (preamble : Preamble) (column : Column) (inner : Sequence) (end : List Token) → ((other : Column) (rest : List Token) → length rest < length end → more other rest ≡ others other rest) → cell_end tables more preamble column inner end ≡ cell_end tables others preamble column inner end
  cell_end_same more others preamble column inner end h =
      then_where four (4 * length end) (after_cell tables preamble column end) (cell_and_more more preamble (cell_list column inner)) (cell_and_more others preamble (cell_list column inner)) (after_cell_takes tables preamble column end)
      (λ step rest w. cell_and_more_same more others preamble (cell_list column inner) step rest (λ other. h other rest (omega (arith, w))))

  cells_same : (n m level : ℕ) (preamble : Preamble) (column : Column) (ts : List Token) → length ts < n → length ts < m → cells_from tables units again n level preamble column ts ≡ cells_from tables units again m level preamble column ts
  cells_same zero m level preamble column ts h k = absurd (omega (arith, h))
  cells_same (suc n) zero level preamble column ts h k = absurd (omega (arith, k))
  cells_same (suc n) (suc m) level preamble column ts h k =
      then_same (length ts) (list_after tables units again End (cell_start column) AtCell level None ts) (cell_end tables (cells_from tables units again n level preamble) preamble column) (cell_end tables (cells_from tables units again m level preamble) preamble column)
      (list_after_settles tables units (suc (length ts)) again (settled (suc (length ts))) End (cell_start column) AtCell level None ts (omega arith))
      (λ inner end s. cell_end_same (cells_from tables units again n level preamble) (cells_from tables units again m level preamble) preamble column inner end
      (λ other rest less. cells_same n m level preamble other rest (omega (arith, less, s, h)) (omega (arith, less, s, k))))

  pub cells_turn : (level : ℕ) (preamble : Preamble) (column : Column) (ts : List Token)
      → whole_cells tables units again level preamble column ts ≡ then_read (list_after tables units again End (cell_start column) AtCell level None ts) (cell_end tables (whole_cells tables units again level preamble) preamble column)
  cells_turn level preamble column ts =
      then_same (length ts) (list_after tables units again End (cell_start column) AtCell level None ts) (cell_end tables (cells_from tables units again (length ts) level preamble) preamble column) (cell_end tables (whole_cells tables units again level preamble) preamble column)
      (list_after_settles tables units (suc (length ts)) again (settled (suc (length ts))) End (cell_start column) AtCell level None ts (omega arith))
      (λ inner end s. cell_end_same (cells_from tables units again (length ts) level preamble) (whole_cells tables units again level preamble) preamble column inner end
      (λ other rest less. cells_same (length ts) (suc (length rest)) level preamble other rest (omega (arith, less, s)) (omega arith)))

  pub table_begins : (level : ℕ) (preamble : Preamble) (ts : List Token) → table_rows tables units again level preamble ts ≡ then_read (row_or_end tables (after_spaces ts)) (rows_from_step (whole_cells tables units again level preamble) preamble)
  table_begins level preamble ts =
      then_where none (4 * length (after_spaces ts)) (row_or_end tables (after_spaces ts)) (rows_from_step (cells_from tables units again (suc (length ts + 1)) level preamble) preamble) (rows_from_step (whole_cells tables units again level preamble) preamble) (row_or_end_short tables (after_spaces ts))
      (λ step rest w. rows_from_step_same (cells_from tables units again (suc (length ts + 1)) level preamble) (whole_cells tables units again level preamble) preamble step rest
      (λ column. cells_same (suc (length ts + 1)) (suc (length rest)) level preamble column rest (omega (arith, w, spaces_short ts)) (omega arith)))
