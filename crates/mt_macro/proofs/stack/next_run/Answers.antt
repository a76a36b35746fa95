use Rattle.std.proofs.Common.{refl}
use Rattle.mt_macro.proofs.Stacks.{popped, gives_run}
use Rattle.mt_macro.proofs.stack.next_run.Goals as goal

pub first_whole-requires-clause-runs : goal.first_whole-requires-clause-runs
first_whole-requires-clause-runs g c = (popped _ _ _ _ _ c.requires c.in-Some.ensures.items).0

pub first_whole-requires-clause-run : goal.first_whole-requires-clause-run
first_whole-requires-clause-run g c = (popped _ _ _ _ _ c.requires c.in-Some.ensures.items).1

pub returns-in_ok-first-in-Some : goal.returns-in_ok-first-in-Some
returns-in_ok-first-in-Some g c = gives_run _ _ _ _ _ _ _ _ _ c.requires c.in-Some.ensures.items c.in_ok-first-in-Some.ensures refl c.less-rest.ensures refl
