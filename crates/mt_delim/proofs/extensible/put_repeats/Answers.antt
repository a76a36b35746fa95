use Rattle.std.proofs.Common.{◌∙◌, ◌^◌, ap, lit<, pos, ◌+ℤ◌, ◌*ℤ◌}
use Rattle.mt_scaled.proofs.Products.{kept}
use Rattle.mt_box.specs.marks.Layers.{put_on}
use Rattle.mt_delim.proofs.PutGlyphs.{repeats_marks, repeats_total}
use Rattle.mt_delim.proofs.extensible.put_repeats.Goals as goal

pub returns-clause-marks : goal.returns-clause-marks
returns-clause-marks c =
    c.in_ok-put.ensures.is
    ∙ ap (λ ps. put_on ps c.args.marks.now) (repeats_marks c.args.number c.args.font.now c.args.count c.args.code _ c.args.depth.sp c.way_below.result c.way_below.ensures.right c.way_below.ensures.down
    (kept (2 ^ 32) _ c.height_plus_depth-step.ensures.small (lit< tt) ∙ c.height_plus_depth-step.ensures.is))

pub returns-clause-depth : goal.returns-clause-depth
returns-clause-depth c =
    c.plus.ensures
    ∙ ap (λ z. c.args.depth.sp +ℤ z) (c.times.ensures.is ∙ (ap (λ s. s *ℤ pos c.args.count) c.height_plus_depth-step.ensures.is ∙ repeats_total c.args.font.now c.args.count c.args.code))
