use Rattle.mt_convert.proofs.Wrapping.{list_put, row_put}
use Rattle.mt_convert.proofs.passes.set_span.Goals as goal

pub set_span_on-requires : goal.set_span_on-requires
set_span_on-requires c = record { modest = record { within = c.requires.within; modest = c.requires.modest; kept = c.requires.lists } }

pub returns-clause-is : goal.returns-clause-is
returns-clause-is c = list_put c.set_span_on.result c.args.fonts.now c.args.style _ _ _ c.set_span_on.ensures.is

pub returns-clause-holds : goal.returns-clause-holds
returns-clause-holds c = row_put c.set_span_on.result c.args.fonts.now c.args.style _ _ _ c.look_at_fonts.ensures (list_put c.set_span_on.result c.args.fonts.now c.args.style _ _ _ c.set_span_on.ensures.is)
