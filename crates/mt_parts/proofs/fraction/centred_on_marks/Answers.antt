use Rattle.std.proofs.Common.{◌∙◌, sym, lit<}
use Rattle.mt_scaled.specs.Number.{max_dimen}
use Rattle.mt_scaled.proofs.Products.{kept}
use Rattle.mt_rules.specs.Fractions.{layout_with_rule}
use Rattle.mt_rules.specs.OnMarks.{layout_with}
use Rattle.mt_rules.specs.Setting.{make_box, test_rule}
use Rattle.mt_parts.proofs.MarkedParts.{by_first, by_second, passes}
use Rattle.mt_parts.proofs.fraction.centred_on_marks.Goals as goal

pub returns-then-is_zero-clause-is : goal.returns-then-is_zero-clause-is
returns-then-is_zero-clause-is c = λ n d rest e. by_first _ _ _ _ _ (sym c.is_zero.ensures ∙ c.if-is_zero.true) (c.without_rule_on_marks.ensures.is n d rest e)

pub returns-clause-is : goal.returns-clause-is
returns-clause-is c = λ n d rest e.
    by_second _ _ _ _ _ (sym c.is_zero.ensures ∙ c.if-is_zero.false)
    (passes _ _ (test_rule c.args.num.width c.args.thickness.sp) (λ u. make_box (layout_with_rule c.args.fonts.now c.args.style c.args.thickness.sp (layout_with c.args.num n) (layout_with c.args.den d)))
    (rw (kept max_dimen c.args.num.width c.requires.num.width (lit< tt)) at c.in_ok-tested_rule.ensures) (c.with_rule_on_marks.ensures.is n d rest e))
