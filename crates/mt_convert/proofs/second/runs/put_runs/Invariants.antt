use Rattle.std.proofs.Common.{drop}
use Rattle.mt_convert.proofs.Runs.{RunsSoFar}
use Rattle.mt_convert.proofs.second.runs.put_runs.Given as goal

abbrev pub invariant-loop-item : goal.invariant-loop-item
invariant-loop-item l = RunsSoFar l.fonts l.fn.style l.fn.items l.current (drop l.item-index l.items) l.runs.items
