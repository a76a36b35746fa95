use Rattle.mt_box.specs.marks.Layers.{top}
use Rattle.mt_rules.specs.OnMarks.{layout_with}
use Rattle.mt_parts.proofs.Finding.{number_is, accent_on, number_kept}
use Rattle.mt_parts.proofs.accents.accent_on_marks.Goals as goal

pub returns-clause-is : goal.returns-clause-is
returns-clause-is c = λ k e n rest s.
    accent_on c.args.fonts.now c.in-Some.number k c.args.accent.code c.widest_code-code.result c.in-Some-font.font.now c.args.skew.sp c.args.plain (layout_with c.args.body n) c.character_over.result (top c.character_over.new.marks)
    (number_is c.args.fonts.now c.args.size c.args.accent c.in-Some.number k c.requires.found c.in-Some.ensures.is e)
    c.in-Some-font.ensures.is
    (rw (number_kept c.args.plain.width c.requires.plain_width) at c.widest_code-code.ensures.is)
    (c.character_over.ensures.is n rest s)
