use Rattle.std.proofs.Common.{ℕ, ◌+◌, ◌-◌, ◌<◌, ◌≤◌, length}
use Rattle.mt_tables.specs.inner.KeptMacros.{Pads}
use Rattle.mt_tables.proofs.putting.reach.Given as goal

abbrev pub invariant-loop-kept : goal.invariant-loop-kept
invariant-loop-kept l = record {
  pads : Pads l.fn.kept.items l.kept.items;
  within : (limit : ℕ) → length l.fn.kept.items ≤ limit → l.number < limit → length l.kept.items ≤ limit;
}

abbrev pub decreases-loop-kept : goal.decreases-loop-kept
decreases-loop-kept l = l.number + 1 - length l.kept.items
