use Rattle.std.proofs.Common.{[]}
use Rattle.mt_parts.proofs.lines.overline_box.Goals as goal

pub returns-clause-is : goal.returns-clause-is
returns-clause-is c = c.boxed.ensures.is _ (rw c.extents-reach.ensures.is at c.overline_on_marks-set.ensures.is c.args.body.places [] c.in_ok-marks.ensures)
