use Rattle.mt_macro.proofs.Putting.{flattening_start, flattening_more}
use Rattle.mt_macro.proofs.parts.take_basic.Goals as goal

pub loop-run-init : goal.loop-run-init
loop-run-init g c = flattening_start _ _ _ _ c.requires.left c.clear.ensures.items

pub loop-run-preserved : goal.loop-run-preserved
loop-run-preserved g c =
    let v = rw c.in-Some.is at c.in_ok-run.ensures in
    flattening_more _ _ _ _ _ _ _ c.in-Some.run' c.loop-run.invariant v.0 v.1 c.in_ok-push.ensures.items
