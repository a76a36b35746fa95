use Rattle.std.proofs.Common.{◌∙◌, ◌^◌, refl, lit<}
use Rattle.std.proofs.lemmas.Result.{err_from_is_err_and}
use Rattle.mt_scaled.proofs.Products.{kept}
use Rattle.mt_box.specs.marks.Layers.{top}
use Rattle.mt_rules.specs.OnMarks.{layout_with}
use Rattle.mt_scripts.proofs.Attaching.{both_attached, both_refused}
use Rattle.mt_scripts.proofs.attach.both_on_marks.Goals as goal

pub returns-in_err-extents-clause-is : goal.returns-in_err-extents-clause-is
returns-in_err-extents-clause-is c = λ row s b rest nu e.
    let p = err_from_is_err_and c.from_residual-in_err-extents.result c.from_residual-in_err-extents.ensures.1 in
    rw (p.1, p.2)
    (both_refused c.args.fonts.now c.args.style row c.args.delta.sp c.shifts_beside-shifts.result.up c.shifts_beside-shifts.result.down c.distance_between.result.sp
    (layout_with c.args.sup s) (layout_with c.args.sub b) (layout_with c.in_ok-sup.sup s) (layout_with c.in_ok-sub.sub b) _ _
    (c.shifts_beside-shifts.ensures.up row nu) (c.shifts_beside-shifts.ensures.down row nu) c.distance_between.ensures.is
    (c.in_ok-sup.ensures.is s) (c.in_ok-sub.ensures.is b) (c.in_err-extents.ensures.is s b rest e))

pub returns-clause-is : goal.returns-clause-is
returns-clause-is c = λ row s b rest nu e.
    both_attached c.args.fonts.now c.args.style row c.args.delta.sp c.shifts_beside-shifts.result.up c.shifts_beside-shifts.result.down c.distance_between.result.sp _
    (layout_with c.args.sup s) (layout_with c.args.sub b) (layout_with c.in_ok-sup.sup s) (layout_with c.in_ok-sub.sub b)
    (layout_with c.in_ok-extents.extents (top c.join_both.new.marks)) _
    (c.shifts_beside-shifts.ensures.up row nu) (c.shifts_beside-shifts.ensures.down row nu) c.distance_between.ensures.is
    (kept (2 ^ 48) _ c.raise_of_subscript.ensures.small (lit< tt) ∙ c.raise_of_subscript.ensures.is)
    (c.in_ok-sup.ensures.is s) (c.in_ok-sub.ensures.is b) (c.in_ok-extents.ensures.is s b rest e) refl
