use Rattle.std.proofs.Common.{drop}
use Rattle.mt_parts.proofs.LineBoxes.{Pushed}
use Rattle.mt_parts.proofs.centred.push_rows.Given as goal

abbrev pub invariant-loop-row : goal.invariant-loop-row
invariant-loop-row l = Pushed l.rows (drop l.row-index l.rows) l.lines.items l.marks l.fn.marks
