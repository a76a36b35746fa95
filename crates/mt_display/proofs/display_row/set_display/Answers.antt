use Rattle.std.proofs.Common.{◌≡◌, ◌∙◌, refl, ap, take, drop}
use Rattle.mt_display.proofs.Common.{Fit}
use Rattle.mt_display.specs.inner.Fits.{fit_value, target_value}
use Rattle.mt_display.specs.inner.OnStack.{fit_of_row}
use Rattle.mt_display.proofs.Displaying.{display_set, same_fit}
use Rattle.mt_display.proofs.display_row.set_display.Goals as goal

pub returns-clause-is : goal.returns-clause-is
returns-clause-is c =
    let row = drop c.args.first c.args.pieces.now in
    let w = c.widths_of_row.ensures in
    let f : fit_value c.fit_with-fit.result ≡ fit_of_row c.args.z.sp row c.args.number.e.sp c.args.number.q.sp = c.fit_with-fit.ensures.is ∙ same_fit w.z w.w w.s w.e w.q in
    display_set (take c.args.first c.args.pieces.now) row _ (fit_of_row c.args.z.sp row c.args.number.e.sp c.args.number.q.sp) c.args.z.sp _ (target_value c.fit_with-fit.result.target) (ap (λ (g : Fit). g.target) f) c.in_ok-pack_fitted.ensures refl c.last_width.ensures.is (ap (λ (g : Fit). g.e) f) c.begins_with_space-flush.ensures
