use Rattle.std.proofs.Common.{◌∙◌}
use Rattle.mt_words.proofs.RangeLemmas.{downward_more}
use Rattle.mt_words.proofs.range.push_downward.Goals as goal

pub loop-step-preserved : goal.loop-step-preserved
loop-step-preserved c = c.in_ok-push.ensures.items ∙ downward_more _ _ _ _ c.loop-step.invariant
