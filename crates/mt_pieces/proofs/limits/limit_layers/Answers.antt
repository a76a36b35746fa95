use Rattle.std.proofs.Common.{◌∷◌, sym, subst}
use Rattle.mt_box.specs.marks.Layers.{top}
use Rattle.mt_rules.specs.Limits.{limits}
use Rattle.mt_rules.specs.OnMarks.{BoxSetsOn, layout_with}
use Rattle.mt_scripts.specs.LimitMarks.{IsLimit, limit_of}
use Rattle.mt_pieces.specs.inner.Taken.{extents_if}
use Rattle.mt_pieces.proofs.limits.limit_layers.Goals as goal

pub returns-clause-is : goal.returns-clause-is
returns-clause-is c = λ n s b rest no_sup no_sub e.
    let sup = c.extents_if-sup in
    let sub = c.extents_if-sub in
    let made = c.limits_on_marks in
    subst (λ z. BoxSetsOn made.result (top made.new.marks) (limits c.args.fonts.now c.args.size (layout_with c.args.nucleus.extents n) c.args.delta.sp (limit_of z s) (limit_of (extents_if c.args.taken.sub) b))) sup.ensures.is
    (subst (λ z. BoxSetsOn made.result (top made.new.marks) (limits c.args.fonts.now c.args.size (layout_with c.args.nucleus.extents n) c.args.delta.sp (limit_of sup.result s) (limit_of z b))) sub.ensures.is
    (made.ensures.is n s b rest (subst (λ z. IsLimit z s) (sym sup.ensures.is) no_sup) (subst (λ z. IsLimit z b) (sym sub.ensures.is) no_sub) (c.in_ok-lay_absent.ensures s b (n ∷ rest) no_sup no_sub e)))
