use Rattle.std.proofs.Common.{ap, sym, ◌∙◌}
use Rattle.mt_convert.specs.inner.Tables.{has_column}
use Rattle.mt_convert.proofs.kinds.RowBoxes.{two_of_equations}
use Rattle.mt_convert.proofs.set.tables.has_column.Goals as goal

pub returns-in-Equations : goal.returns-in-Equations
returns-in-Equations c = two_of_equations c.args.number ∙ ap (λ l. has_column l c.args.number) (sym c.in-Equations.is)
