use Rattle.mt_convert.proofs.PutRows.{items_step}
use Rattle.mt_convert.proofs.placing.put_items.Goals as goal

pub loop-item-preserved : goal.loop-item-preserved
loop-item-preserved c =
    (tt, tt, items_step _ _ _ _ _ _ _ _ _ _ c.loop-item.invariant.2 c.in-Some.ensures.steps.0 c.in_ok-half.ensures c.in_ok-push.ensures.items)
