use Rattle.std.proofs.Common.{◌≤◌, ◌^◌, ◌∙◌, sym, subst}
use Rattle.std.specs.Prelude.{All}
use Rattle.mt_pieces.proofs.Celled.{some_table, table_is}
use Rattle.mt_pieces.proofs.Celling.{few_in_rows}
use Rattle.mt_pieces.proofs.tables.matrix_layers.Goals as goal

pub matrix_on_marks-requires-clause-few_cells : goal.matrix_on_marks-requires-clause-few_cells
matrix_on_marks-requires-clause-few_cells c = few_in_rows (2 ^ 19) c.in_ok-cells.cells (subst (All (λ k. k ≤ 2 ^ 19)) (sym c.in_ok-cells.ensures.counts) c.requires.few_cells)

pub returns-clause-is : goal.returns-clause-is
returns-clause-is c = λ cells ls rest are counts e.
    let t = table_is cells c.in_ok-cells.cells c.args.parts.now ls c.in_ok-cells.ensures.boxes (c.in_ok-cells.ensures.counts ∙ counts) are in
    c.matrix_on_marks.ensures.is cells rest t.extents (e ∙ t.stack rest)

pub returns-clause-rest : goal.returns-clause-rest
returns-clause-rest c = λ ms ls rest are e.
    let t = some_table ms c.in_ok-cells.cells c.args.parts.now ls c.in_ok-cells.ensures.boxes are in
    c.matrix_on_marks.ensures.rest t.cells rest t.is.extents (e ∙ t.is.stack rest)
