use Rattle.std.proofs.Common.{◌∙◌, ◌+◌, ◌-◌, ap, set}
use Rattle.mt_box.proofs.Lists.{one_changed}
use Rattle.mt_box.proofs.marks.starts.raise_all.Goals as goal

pub loop-i-preserved : goal.loop-i-preserved
loop-i-preserved c =
    ap (λ n. set c.loop-i.starts c.loop-i.i (n + c.args.to)) c.saturating_sub.ensures
    ∙ one_changed (λ n. n - c.args.from + c.args.to) c.loop-i.i c.args.starts.now c.loop-i.starts _ c.loop-i-test.true c.loop-i.invariant
