use Rattle.std.proofs.Common.{arith}
use Rattle.mt_macro.proofs.Gathers.{grouping_start, grouping_more, grouping_none, grouping_ends}
use Rattle.mt_macro.proofs.arguments.take_group.Goals as goal

pub loop-run-init : goal.loop-run-init
loop-run-init g c = grouping_start _ _ _ _ c.requires.left (omega arith)

pub returns-in-At : goal.returns-in-At
returns-in-At g c =
    let v = rw c.in-Some.is at c.in_ok-run.ensures in
    grouping_ends _ _ _ _ _ _ _ _ _ _ _ _ c.in-Some.run' _ c.loop-run.invariant v c.in-At.ensures c.in_ok-push_before-in-At.ensures
    c.in_ok-put_from-in-At.ensures.left c.in_ok-put_from-in-At.ensures.is c.argument_of.ensures.one c.argument_of.ensures.more

pub returns : goal.returns
returns g c =
    let v = rw c.in_default.is at c.in_ok-run.ensures in
    grouping_none _ _ _ _ _ _ _ _ c.loop-run.invariant v

pub loop-run-preserved : goal.loop-run-preserved
loop-run-preserved g c =
    let v = rw c.in-Some.is at c.in_ok-run.ensures in
    grouping_more _ _ _ _ _ _ _ _ _ _ _ _ c.in-Some.run' c.loop-run.invariant v c.in-Open.ensures c.in_ok-push_part-in-Open.ensures (omega arith)
