use Rattle.std.proofs.Common.{◌^◌}
use Rattle.mt_align.proofs.Placed.{few_rows, few_cells}
use Rattle.mt_align.proofs.matrix.align_matrix.Goals as goal

pub matrix_on_marks-requires-clause-few_rows : goal.matrix_on_marks-requires-clause-few_rows
matrix_on_marks-requires-clause-few_rows c = few_rows c.args.rows c.in_ok-cells.cells (2 ^ 19) c.in_ok-cells.ensures.is c.requires.few_rows

pub matrix_on_marks-requires-clause-few_cells : goal.matrix_on_marks-requires-clause-few_cells
matrix_on_marks-requires-clause-few_cells c = few_cells c.args.rows c.in_ok-cells.cells (2 ^ 19) c.in_ok-cells.ensures.is c.requires.few_cells
