use Rattle.std.proofs.Common.{drop}
use Rattle.mt_display.proofs.EquationSides.{Widened}
use Rattle.mt_display.proofs.equations.widths_of_sides.Given as goal

abbrev pub invariant-loop-row : goal.invariant-loop-row
invariant-loop-row l = Widened l.rows (drop l.row-index l.row-items) l.widths
