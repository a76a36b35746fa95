use Rattle.std.proofs.Common.{◌∙◌, ◌-◌, ap, set}
use Rattle.mt_box.proofs.Lists.{one_changed}
use Rattle.mt_box.proofs.marks.starts.lower_all.Goals as goal

pub loop-i-preserved : goal.loop-i-preserved
loop-i-preserved c =
    ap (λ i. set c.loop-i.starts c.loop-i.i i) c.saturating_sub.ensures
    ∙ one_changed (λ n. n - c.args.by) c.loop-i.i c.args.starts.now c.loop-i.starts _ c.loop-i-test.true c.loop-i.invariant
