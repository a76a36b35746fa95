use Rattle.std.proofs.Common.{drop}
use Rattle.mt_convert.proofs.SecondPass.{PutSoFar}
use Rattle.mt_convert.proofs.second.join.put_halves.Given as goal

abbrev pub invariant-loop-item : goal.invariant-loop-item
invariant-loop-item l =
    PutSoFar l.fonts l.frame.size l.frame.wanted.sp l.fn.style l.fn.items l.fn.first l.fn.pieces l.current (drop l.item-index l.items) l.from l.pieces
