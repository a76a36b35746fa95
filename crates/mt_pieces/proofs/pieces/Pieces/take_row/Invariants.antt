use Rattle.std.proofs.Common.{length}
use Rattle.mt_pieces.proofs.Taking.{TakenSoFar}
use Rattle.mt_pieces.proofs.pieces.Pieces.take_row.Given as goal

abbrev pub invariant-taking : goal.invariant-taking
invariant-taking l = TakenSoFar l.first l.fn.self l.self l.row.items

abbrev pub decreases-taking : goal.decreases-taking
decreases-taking l = length l.self
