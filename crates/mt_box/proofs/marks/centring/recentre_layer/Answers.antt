use Rattle.std.proofs.Common.{◌∙◌, sym, ap, ◌-ℤ◌, int_eq}
use Rattle.mt_scaled.specs.Number.{half_of}
use Rattle.mt_box.specs.marks.Layers.{moved_layer}
use Rattle.mt_box.proofs.Recentred.{kept_wide}
use Rattle.mt_box.proofs.layers.Centred.{still_layer, inset_layer, wider_in_range}
use Rattle.mt_box.proofs.marks.centring.recentre_layer.Goals as goal

pub returns-then-is_as_wide-clause-marks : goal.returns-then-is_as_wide-clause-marks
returns-then-is_as_wide-clause-marks c =
    let same = ap (λ z. int_eq c.args.extents.width z) (sym (kept_wide c.args.width.sp c.requires.width)) ∙ sym c.is_as_wide.ensures in
    still_layer c.args.under c.args.extents c.args.width.sp c.args.marks.now (same ∙ c.if-is_as_wide.true)

pub returns-clause-marks : goal.returns-clause-marks
returns-clause-marks c =
    let kept = kept_wide c.args.width.sp c.requires.width in
    let same = ap (λ z. int_eq c.args.extents.width z) (sym kept) ∙ sym c.is_as_wide.ensures in
    let way = c.inset in
    let right = way.ensures.right ∙ ap (λ z. half_of (z -ℤ c.args.extents.width)) kept in
    c.in_ok-shift.ensures
    ∙ (ap (λ z. moved_layer c.args.under z way.result.up c.args.marks.now) right
    ∙ (ap (λ z. moved_layer c.args.under (half_of (c.args.width.sp -ℤ c.args.extents.width)) z c.args.marks.now) way.ensures.up
    ∙ inset_layer c.args.under c.args.extents c.args.width.sp c.args.marks.now (same ∙ c.if-is_as_wide.false)))

pub returns-clause-in_range : goal.returns-clause-in_range
returns-clause-in_range c =
    let e = c.extents_of_width.ensures in
    let width = e.width ∙ kept_wide c.args.width.sp c.requires.width in
    wider_in_range c.args.extents c.extents_of_width.result c.args.width.sp c.requires.extents c.requires.width width e.height e.depth
