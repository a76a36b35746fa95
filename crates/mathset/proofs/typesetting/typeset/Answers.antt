use Rattle.std.proofs.Common.{List, sym, ◌∙◌}
use Rattle.std.proofs.lemmas.Result.{err_from_is_err_and}
use Rattle.mt_outside.specs.declared.files.Held.{Held}
use Rattle.mt_family.specs.SetValue.{SetValue}
use Rattle.mathset.specs.FontSteps.{font_set_step}
use Rattle.mathset.specs.Noted.{file_overfull}
use Rattle.mathset.specs.Steps.{source_step}
use Rattle.mt_pages.specs.Typeset.{TypesetValue}
use Rattle.mathset.proofs.MadeLemmas.{puts_then}
use Rattle.mathset.proofs.NoteLemmas.{few_of_file, notes_found}
use Rattle.mathset.proofs.StepLemmas.{step_err}
use Rattle.mathset.proofs.typesetting.typeset.Goals as goal

pub returns-clause-is : goal.returns-clause-is
returns-clause-is g c =
    rw (← c.words.view_is)
    (puts_then _ _ _ (font_set_step c.words.inside.fonts.now) c.in_ok-fonts.fonts (source_step c.words.inside.source.now c.words.inside.line) c.args.form c.set_source.result c.in_ok-fonts.ensures.is (rw (← c.words.view_is) at c.set_source.ensures.is))

pub returns-in_err-fonts-clause-is : goal.returns-in_err-fonts-clause-is
returns-in_err-fonts-clause-is g c =
    let p = err_from_is_err_and c.from_residual.result c.from_residual.ensures.1 in
    rw (p.1, p.2, ← c.words.view_is)
    (step_err {T = SetValue} {U = TypesetValue} _ _ (font_set_step c.words.inside.fonts.now) (λ (held : List Held) (fonts : SetValue). source_step c.words.inside.source.now c.words.inside.line fonts held) c.in_err-fonts.field-0.0 c.in_err-fonts.ensures.is)

pub returns-in_err-fonts-clause-formula : goal.returns-in_err-fonts-clause-formula
returns-in_err-fonts-clause-formula g c =
    let p = err_from_is_err_and c.from_residual.result c.from_residual.ensures.1 in
    rw (p.1, p.2) (sym (few_of_file _ c.in_err-fonts.ensures.of_file))

pub returns-in_err-fonts-clause-noted : goal.returns-in_err-fonts-clause-noted
returns-in_err-fonts-clause-noted g c =
    let p = err_from_is_err_and c.from_residual.result c.from_residual.ensures.1 in
    rw (p.1, p.2, c.in_err-fonts.ensures.of_file) (λ never. absurd (cc))

pub returns-clause-overfull : goal.returns-clause-overfull
returns-clause-overfull g c =
    rw (← c.words.view_is)
    (λ files told.
    notes_found _ _ (font_set_step c.words.inside.fonts.now) c.in_ok-fonts.fonts (λ (fonts : SetValue). file_overfull c.words.inside.source.now c.words.inside.line fonts files) _ files c.in_ok-fonts.ensures.is told
    (rw (← c.words.view_is) at c.set_source.ensures.overfull files (c.in_ok-fonts.ensures.is.kept ∙ told)))
