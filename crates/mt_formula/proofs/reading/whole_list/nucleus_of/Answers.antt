use Rattle.mt_formula.proofs.Arenas.{list_field}
use Rattle.mt_formula.proofs.reading.whole_list.nucleus_of.Goals as goal

pub returns-in_ok-span_of-in_default-clause-kept : goal.returns-in_ok-span_of-in_default-clause-kept
returns-in_ok-span_of-in_default-clause-kept c = list_field _ c.in_ok-span_of-in_default.field-0 c.in_ok-span_of-in_default.ensures.kept
