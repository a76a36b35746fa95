use Rattle.std.proofs.Common.{map, refl}
use Rattle.mt_display.proofs.Common.{equation_row, equation_layout}
use Rattle.mt_display.proofs.RowMaps.{all_wide}
use Rattle.mt_display.proofs.equations.place_equations.Goals as goal

pub line_of_rows-requires-clause-wide : goal.line_of_rows-requires-clause-wide
line_of_rows-requires-clause-wide c = all_wide _ (equation_row _ c.axis_of-axis.result.sp c.args.left) (λ x. refl) c.in_ok-rows.rows (map equation_layout c.args.rows) c.in_ok-rows.ensures.is
