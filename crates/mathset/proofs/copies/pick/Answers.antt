use Rattle.std.proofs.Common.{List}
use Rattle.std.proofs.lemmas.Result.{err_from_is_err_and}
use Rattle.mt_outside.specs.declared.files.Held.{Held}
use Rattle.mt_family.specs.SetValue.{SetValue}
use Rattle.mathset.specs.CopySteps.{pick_step}
use Rattle.mathset.specs.FontSteps.{font_set_step}
use Rattle.mathset.specs.Product.{Product}
use Rattle.mathset.proofs.MadeLemmas.{made_then}
use Rattle.mathset.proofs.StepLemmas.{step_err}
use Rattle.mathset.proofs.copies.pick.Goals as goal

pub returns : goal.returns
returns g c = record {
  is = rw (← c.words.view_is) (made_then _ _ _ (font_set_step c.words.inside.fonts.now) c.in_ok-fonts.fonts (pick_step c.words.inside.dvi.now c.words.inside.pages.items) c.pick_from.result c.in_ok-fonts.ensures.is (rw (← c.words.view_is) at c.pick_from.ensures.is));
}

pub returns-in_err-fonts : goal.returns-in_err-fonts
returns-in_err-fonts g c = record {
  is =
      let p = err_from_is_err_and c.from_residual.result c.from_residual.ensures.1 in
      rw (p.1, p.2, ← c.words.view_is)
      (step_err {T = SetValue} {U = Product} _ _ (font_set_step c.words.inside.fonts.now) (λ (held : List Held) (fonts : SetValue). pick_step c.words.inside.dvi.now c.words.inside.pages.items fonts held) c.in_err-fonts.field-0.0 c.in_err-fonts.ensures.is);
}
