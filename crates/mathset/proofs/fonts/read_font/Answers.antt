use Rattle.std.proofs.Common.{◌≡◌, ◌∙◌, ℕ, List}
use Rattle.std.proofs.lemmas.Result.{err_from_is_err_and}
use Rattle.mt_outside.specs.declared.files.Held.{Held}
use Rattle.mt_tfm.specs.Font.{Metrics}
use Rattle.mathset.specs.FontSteps.{line_font, tfm_name}
use Rattle.mt_tfm.specs.Limits.{max_tfm}
use Rattle.mathset.specs.Outcome.{plain}
use Rattle.mathset.specs.Reads.{file_of}
use Rattle.mathset.proofs.StepLemmas.{step_err}
use Rattle.mathset.proofs.fonts.read_font.Goals as goal

pub returns-in_err-bytes-clause-is : goal.returns-in_err-bytes-clause-is
returns-in_err-bytes-clause-is g c =
    let p = err_from_is_err_and c.from_residual-in_err-bytes.result c.from_residual-in_err-bytes.ensures.1 in
    let name : c.deref.result.now ≡ tfm_name c.args.line.now.name = c.deref.ensures ∙ c.in_ok-name.ensures in
    rw (p.1, p.2)
    (step_err {T = List ℕ} {U = Metrics} _ _ (file_of (tfm_name c.args.line.now.name) max_tfm) (λ (held : List Held) (bytes : List ℕ). plain (line_font c.args.number c.args.line.now bytes)) c.in_err-bytes.field-0.0
    (rw name at c.in_err-bytes.ensures.is))

pub returns-in_err-bytes-clause-of_file : goal.returns-in_err-bytes-clause-of_file
returns-in_err-bytes-clause-of_file g c =
    let p = err_from_is_err_and c.from_residual-in_err-bytes.result c.from_residual-in_err-bytes.ensures.1 in
    rw (p.1, p.2) c.in_err-bytes.ensures.of_file
