use Rattle.std.proofs.Common.{refl, sym, ◌∙◌}
use Rattle.mt_macro.proofs.Stacks.{gives_part, part_bound, opened_basic}
use Rattle.mt_macro.proofs.stack.next_basic.Goals as goal

pub loop-run-init : goal.loop-run-init
loop-run-init g c = rw c.in-Some.is at c.in_ok-run.ensures

pub put_back-rest-requires : goal.put_back-rest-requires
put_back-rest-requires g c = part_bound _ _ _ _ c.loop-run.run c.in_ok-first.first c.loop-run.invariant c.requires.short

pub loop-run-preserved : goal.loop-run-preserved
loop-run-preserved g c = gives_part _ _ _ _ _ _ c.loop-run.run _ _ c.loop-run.invariant c.in_ok-first.ensures.is refl c.put_back-rest.ensures refl

pub returns : goal.returns
returns g c = (c.loop-run.invariant, opened_basic _ (sym c.is_opened.ensures ∙ c.loop-run-test.false))

pub open-requires-clause-runs : goal.open-requires-clause-runs
open-requires-clause-runs g c = c.loop-run.invariant.below.runs

pub open-requires-clause-run : goal.open-requires-clause-run
open-requires-clause-run g c = c.loop-run.invariant.known
