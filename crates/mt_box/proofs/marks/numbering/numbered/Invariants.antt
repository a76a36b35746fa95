use Rattle.mt_box.proofs.Numbering.{Numbering}
use Rattle.mt_box.proofs.marks.numbering.numbered.Given as goal

abbrev pub invariant-loop-i : goal.invariant-loop-i
invariant-loop-i l = Numbering l.fn.nodes.items l.nodes.items l.i
