use Rattle.std.proofs.Common.{◌∙◌, ◌^◌, ◌∷◌, [], ap, sym, lit<, Ok, option_map}
use Rattle.std.proofs.lemmas.Result.{err_from_is_err_and}
use Rattle.mt_scaled.proofs.Products.{kept}
use Rattle.mt_box.specs.Layout.{Layout, layout_of}
use Rattle.mt_rules.specs.Setting.{layout_or_empty}
use Rattle.mt_scripts.proofs.TallLimits.{box_limit, box_is_limit, box_fault}
use Rattle.mt_scripts.proofs.limits.limits_box.Goals as goal

pub returns-in_err-extents-clause-is : goal.returns-in_err-extents-clause-is
returns-in_err-extents-clause-is c =
    let p = err_from_is_err_and c.from_residual-in_err-extents.result c.from_residual-in_err-extents.ensures.1 in
    let s = (layout_or_empty (option_map layout_of c.args.sup)).places in
    let b = (layout_or_empty (option_map layout_of c.args.sub)).places in
    let stack = c.in_ok-below.ensures.marks ∙ ap (λ r. b ∷ r) (c.in_ok-above.ensures.marks ∙ ap (λ r. s ∷ r) c.in_ok-marks.ensures) in
    rw (p.1, p.2) (box_fault _ _ _
    (rw (kept (2 ^ 40) c.args.delta c.requires.delta (lit< tt), c.extents-reach.ensures.is, c.in_ok-above.ensures.is, box_limit c.args.sup, c.in_ok-below.ensures.is, box_limit c.args.sub)
    at (c.in_err-extents.ensures.is c.args.nucleus.places s b [] (box_is_limit c.args.sup c.in_ok-above.above c.in_ok-above.ensures.is) (box_is_limit c.args.sub c.in_ok-below.below c.in_ok-below.ensures.is) stack)))

pub returns-clause-is : goal.returns-clause-is
returns-clause-is c =
    let s = (layout_or_empty (option_map layout_of c.args.sup)).places in
    let b = (layout_or_empty (option_map layout_of c.args.sub)).places in
    let stack = c.in_ok-below.ensures.marks ∙ ap (λ r. b ∷ r) (c.in_ok-above.ensures.marks ∙ ap (λ r. s ∷ r) c.in_ok-marks.ensures) in
    (rw (kept (2 ^ 40) c.args.delta c.requires.delta (lit< tt), c.extents-reach.ensures.is, c.in_ok-above.ensures.is, box_limit c.args.sup, c.in_ok-below.ensures.is, box_limit c.args.sub)
    at (c.in_ok-extents.ensures.is c.args.nucleus.places s b [] (box_is_limit c.args.sup c.in_ok-above.above c.in_ok-above.ensures.is) (box_is_limit c.args.sub c.in_ok-below.below c.in_ok-below.ensures.is) stack))
    ∙ ap (λ (l : Layout). Ok l) (sym c.in_ok-into_box.ensures.is)
