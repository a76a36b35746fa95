use Rattle.std.proofs.Common.{◌≡◌, ◌++◌, ◌+◌, ◌-◌, map, take, drop}
use Rattle.mt_box.proofs.marks.starts.raise_all.Given as goal

abbrev pub invariant-loop-i : goal.invariant-loop-i
invariant-loop-i l = l.starts ≡ map (λ n. n - l.from + l.to) (take l.i l.fn.starts) ++ drop l.i l.fn.starts
