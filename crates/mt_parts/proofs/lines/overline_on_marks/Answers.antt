use Rattle.mt_box.specs.marks.Layers.{top}
use Rattle.mt_rules.specs.OnMarks.{layout_with}
use Rattle.mt_parts.proofs.MarkedLines.{overlined}
use Rattle.mt_parts.proofs.lines.overline_on_marks.Goals as goal

pub returns-clause-is : goal.returns-clause-is
returns-clause-is c = λ n rest e.
    overlined c.args.fonts.now c.args.size c.default_rule_thickness-thickness.result.sp c.bottom_of_overline.result.sp (layout_with c.args.body n) c.under_rule_on_marks.result (top c.under_rule_on_marks.new.marks)
    c.default_rule_thickness-thickness.ensures.is c.bottom_of_overline.ensures.is (c.under_rule_on_marks.ensures.is n rest e)
