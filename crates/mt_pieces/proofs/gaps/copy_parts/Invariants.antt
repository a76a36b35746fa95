use Rattle.std.proofs.Common.{◌≡◌, ◌≤◌, ◌++◌, ◌-◌, take, drop}
use Rattle.mt_pieces.proofs.gaps.copy_parts.Given as goal

abbrev pub invariant-loop-i : goal.invariant-loop-i
invariant-loop-i l = record { low : l.start ≤ l.i; is : l.parts.items ≡ l.fn.parts.items ++ take (l.i - l.start) (drop l.start l.fn.parts.items) }
