use Rattle.std.proofs.Common.{◌^◌}
use Rattle.mt_align.proofs.Placed.{few_rows, few_cells}
use Rattle.mt_align.proofs.equations.align_equations.Goals as goal

pub equations_on_marks-requires-clause-few_rows : goal.equations_on_marks-requires-clause-few_rows
equations_on_marks-requires-clause-few_rows c = few_rows c.args.rows c.in_ok-cells.cells (2 ^ 19) c.in_ok-cells.ensures.is c.requires.few_rows

pub equations_on_marks-requires-clause-two_cells : goal.equations_on_marks-requires-clause-two_cells
equations_on_marks-requires-clause-two_cells c = few_cells c.args.rows c.in_ok-cells.cells 2 c.in_ok-cells.ensures.is c.requires.two_cells
