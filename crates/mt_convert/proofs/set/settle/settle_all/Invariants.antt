use Rattle.std.proofs.Common.{◌≡◌, ◌++◌, ◌≤◌, take, drop, length, None}
use Rattle.mt_convert.proofs.Settling.{settled_before}
use Rattle.mt_convert.proofs.set.settle.settle_all.Given as goal

abbrev pub invariant-loop-i : goal.invariant-loop-i
invariant-loop-i l =
    (l.i ≤ length l.items.items)
    × (settled_before l.after (take l.i l.items.items) ++ drop l.i l.items.items ≡ settled_before None l.fn.items.items)
