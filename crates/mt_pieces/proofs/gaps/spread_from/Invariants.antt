use Rattle.std.proofs.Common.{drop}
use Rattle.mt_pieces.proofs.Gapped.{SpreadSoFar}
use Rattle.mt_pieces.proofs.gaps.spread_from.Given as goal

abbrev pub invariant-loop-run : goal.invariant-loop-run
invariant-loop-run l = SpreadSoFar l.runs l.start l.fn.parts.items l.parts.items (drop l.run-index l.runs) l.from
