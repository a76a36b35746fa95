use Rattle.std.proofs.Common.{[]}
use Rattle.mt_parts.proofs.Finding.{number_kept}
use Rattle.mt_parts.proofs.accents.accent_box.Goals as goal

pub returns-clause-is : goal.returns-clause-is
returns-clause-is c = λ k e.
    c.boxed.ensures.is _ (rw (c.extents-under.ensures.is, number_kept c.args.skew c.requires.skew) at c.accent_on_marks-set.ensures.is k e c.args.body.places [] c.in_ok-marks.ensures)
