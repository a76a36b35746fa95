use Rattle.mt_macro.proofs.Putting.{none_but}
use Rattle.mt_macro.proofs.parts.bound_parts.Goals as goal

pub put_filled-requires-clause-runs : goal.put_filled-requires-clause-runs
put_filled-requires-clause-runs g c = none_but _ _ _ c.clear.ensures.items c.in_ok-take_basic.ensures.basic
