use Rattle.std.proofs.Common.{drop}
use Rattle.mt_box.proofs.Packing.{Gathering}
use Rattle.mt_box.proofs.rows.gather.Given as goal

abbrev pub invariant-loop-piece : goal.invariant-loop-piece
invariant-loop-piece l = Gathering l.row (drop l.piece-index l.piece-items) l.parts.items l.fn.marks l.marks
