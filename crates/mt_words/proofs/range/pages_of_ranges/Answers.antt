use Rattle.std.proofs.Common.{◌∙◌, sym}
use Rattle.mt_words.proofs.RangeLemmas.{more, none}
use Rattle.mt_words.proofs.range.pages_of_ranges.Goals as goal

pub returns-in_default : goal.returns-in_default
returns-in_default c = sym (none _ _ _ _ c.loop-word-test.true c.loop-word.invariant (sym c.range_of.ensures.is ∙ c.in_default.is))

pub loop-word-preserved : goal.loop-word-preserved
loop-word-preserved c = more _ _ _ _ _ _ c.loop-word-test.true c.loop-word.invariant (sym c.range_of.ensures.is ∙ c.in-Some.is) c.in_ok-push_pages.ensures
