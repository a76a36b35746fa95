use Rattle.std.proofs.Common.{ℕ, List}
use Rattle.std.proofs.lemmas.Result.{err_from_is_err_and}
use Rattle.mt_outside.specs.declared.files.Held.{Held}
use Rattle.mathset.specs.DviSteps.{dvi_listing}
use Rattle.mt_dvi.specs.Limits.{max_dvi}
use Rattle.mathset.specs.Outcome.{plain}
use Rattle.mathset.specs.Reads.{file_of}
use Rattle.mathset.specs.Product.{Product}
use Rattle.mathset.proofs.StepLemmas.{step_err}
use Rattle.mathset.proofs.dvi.read_file.Goals as goal

pub returns-in_err-bytes : goal.returns-in_err-bytes
returns-in_err-bytes g c = record {
  is =
      let p = err_from_is_err_and c.from_residual.result c.from_residual.ensures.1 in
      rw (p.1, p.2)
      (step_err {T = List ℕ} {U = Product} _ _ (file_of c.args.name.now max_dvi) (λ (held : List Held) (bytes : List ℕ). plain (dvi_listing c.args.fonts.now bytes)) c.in_err-bytes.field-0.0 c.in_err-bytes.ensures.is);
}
