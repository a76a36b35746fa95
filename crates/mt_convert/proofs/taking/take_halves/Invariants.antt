use Rattle.std.proofs.Common.{◌≤◌, take, length}
use Rattle.mt_convert.proofs.TakenRows.{ItemsTaken}
use Rattle.mt_convert.proofs.taking.take_halves.Given as goal

abbrev pub invariant-loop-i : goal.invariant-loop-i
invariant-loop-i l = (l.i ≤ length l.items) × ItemsTaken l.fn.items (take l.i l.items) l.fn.pieces l.pieces l.halves.items
