use Rattle.std.proofs.Common.{ℕ, List, sym}
use Rattle.std.proofs.lemmas.Result.{err_from_is_err_and}
use Rattle.mt_outside.specs.declared.files.Held.{Held}
use Rattle.mt_token.specs.Tokens.{max_source}
use Rattle.mathset.specs.Outcome.{plain}
use Rattle.mathset.specs.Reads.{file_of}
use Rattle.mt_pages.specs.Pages.{source_overfull}
use Rattle.mt_pages.specs.Typeset.{TypesetValue, typeset_of}
use Rattle.mathset.proofs.MadeLemmas.{put_step}
use Rattle.mathset.proofs.NoteLemmas.{few_of_file, notes_found}
use Rattle.mathset.proofs.StepLemmas.{step_err}
use Rattle.mathset.proofs.WidthLemmas.{line_kept}
use Rattle.mathset.proofs.typesetting.set_source.Goals as goal

pub returns-clause-is : goal.returns-clause-is
returns-clause-is g c =
    rw (← c.words.view_is)
    (put_step _ _ (file_of c.words.inside.source.now max_source) _ (typeset_of c.args.fonts.now c.words.inside.line) c.args.form c.source_in_form.result c.in_ok-source.ensures.is
    (rw (line_kept c.words.inside.line c.words.invariant.0 c.words.invariant.1, c.as_slice.ensures) at c.source_in_form.ensures.is))

pub returns-in_err-source-clause-is : goal.returns-in_err-source-clause-is
returns-in_err-source-clause-is g c =
    let p = err_from_is_err_and c.from_residual.result c.from_residual.ensures.1 in
    rw (p.1, p.2, ← c.words.view_is)
    (step_err {T = List ℕ} {U = TypesetValue} _ _ (file_of c.words.inside.source.now max_source) (λ (held : List Held) (source : List ℕ). plain (typeset_of c.args.fonts.now c.words.inside.line source)) c.in_err-source.field-0.0 c.in_err-source.ensures.is)

pub returns-in_err-source-clause-formula : goal.returns-in_err-source-clause-formula
returns-in_err-source-clause-formula g c =
    let p = err_from_is_err_and c.from_residual.result c.from_residual.ensures.1 in
    rw (p.1, p.2) (sym (few_of_file _ c.in_err-source.ensures.of_file))

pub returns-clause-overfull : goal.returns-clause-overfull
returns-clause-overfull g c =
    rw (← c.words.view_is)
    (λ files told.
    notes_found _ _ (file_of c.words.inside.source.now max_source) _ (source_overfull c.args.fonts.now c.words.inside.line) _ files c.in_ok-source.ensures.is told
    (rw (line_kept c.words.inside.line c.words.invariant.0 c.words.invariant.1, c.as_slice.ensures) at c.source_in_form.ensures.overfull))
