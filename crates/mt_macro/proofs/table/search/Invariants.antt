use Rattle.std.proofs.Common.{◌-◌}
use Rattle.mt_macro.proofs.Entries.{Searching}
use Rattle.mt_macro.proofs.table.search.Given as goal

abbrev pub invariant-loop-low : goal.invariant-loop-low
invariant-loop-low l = Searching l.entries l.name l.low l.high

abbrev pub decreases-loop-low : goal.decreases-loop-low
decreases-loop-low l = l.high - l.low
