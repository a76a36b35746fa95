use Rattle.std.proofs.Common.{◌≡◌, ◌++◌}
use Rattle.mt_words.specs.Ranges.{downward}
use Rattle.mt_words.proofs.range.push_downward.Given as goal

abbrev pub invariant-loop-step : goal.invariant-loop-step
invariant-loop-step l = l.pages.items ≡ l.initial.pages.items ++ downward l.first l.step
