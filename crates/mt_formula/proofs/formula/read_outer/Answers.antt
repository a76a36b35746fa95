use Rattle.mt_formula.proofs.Arenas.{span_lists}
use Rattle.mt_formula.proofs.formula.read_outer.Goals as goal

pub returns-clause-lists : goal.returns-clause-lists
returns-clause-lists g c = span_lists _ c.in_ok-span_of.field-0 c.in_ok-span_of.ensures.kept
