use Rattle.mt_box.proofs.layers.RowSums.{PartsJoining}
use Rattle.mt_box.proofs.marks.row.join_parts.Given as goal

abbrev pub invariant-loop-i : goal.invariant-loop-i
invariant-loop-i l = PartsJoining l.parts l.shrink.most.sp l.shrink.used.sp l.i l.edge.x l.edge.before l.fn.marks l.marks

abbrev pub decreases-loop-i : goal.decreases-loop-i
decreases-loop-i l = l.i
