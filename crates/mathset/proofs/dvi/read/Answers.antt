use Rattle.std.proofs.Common.{List}
use Rattle.std.proofs.lemmas.Result.{err_from_is_err_and}
use Rattle.mt_outside.specs.declared.files.Held.{Held}
use Rattle.mt_family.specs.SetValue.{SetValue}
use Rattle.mathset.specs.DviSteps.{dvi_step}
use Rattle.mathset.specs.FontSteps.{font_set_step}
use Rattle.mathset.specs.Product.{Product}
use Rattle.mathset.specs.inner.Steps.{text_of}
use Rattle.mathset.proofs.MadeLemmas.{text_made}
use Rattle.mathset.proofs.StepLemmas.{step_then, step_err}
use Rattle.mathset.proofs.dvi.read.Goals as goal

pub returns : goal.returns
returns g c = record {
  is = rw (← c.words.view_is) (text_made _ _ _ c.read_file.result (step_then _ _ _ (font_set_step c.words.inside.fonts.now) c.in_ok-fonts.fonts (dvi_step c.words.inside.dvi.now) (text_of c.read_file.result) c.in_ok-fonts.ensures.is c.read_file.ensures.is));
}

pub returns-in_err-fonts : goal.returns-in_err-fonts
returns-in_err-fonts g c = record {
  is =
      let p = err_from_is_err_and c.from_residual.result c.from_residual.ensures.1 in
      rw (p.1, p.2, ← c.words.view_is)
      (step_err {T = SetValue} {U = Product} _ _ (font_set_step c.words.inside.fonts.now) (λ (held : List Held) (fonts : SetValue). dvi_step c.words.inside.dvi.now fonts held) c.in_err-fonts.field-0.0 c.in_err-fonts.ensures.is);
}
