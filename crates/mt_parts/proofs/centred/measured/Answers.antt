use Rattle.mt_parts.proofs.Lining.{reach_small}
use Rattle.mt_parts.proofs.centred.measured.Goals as goal

pub under-reach-requires-clause-total : goal.under-reach-requires-clause-total
under-reach-requires-clause-total c = reach_small c.args.rows.now c.loop-i.i _ c.requires.few c.requires.rows c.loop-i.invariant.total

pub returns-clause-small : goal.returns-clause-small
returns-clause-small c = reach_small c.args.rows.now c.loop-i.i _ c.requires.few c.requires.rows c.loop-i.invariant.total
