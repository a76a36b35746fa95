use Rattle.std.proofs.Common.{[], ℕ, List, map}
use Rattle.std.specs.Borrow.{Bor}
use Rattle.std.proofs.lemmas.Result.{err_from_is_err_and}
use Rattle.mt_outside.specs.declared.files.Held.{Held}
use Rattle.mathset.specs.CopySteps.{files_step, joined_files}
use Rattle.mathset.specs.Outcome.{plain}
use Rattle.mathset.specs.Product.{Product}
use Rattle.mathset.proofs.StepLemmas.{step_err}
use Rattle.mathset.proofs.copies.join_files.Goals as goal

pub returns-in_err-files : goal.returns-in_err-files
returns-in_err-files g c = record {
  is =
      let p = err_from_is_err_and c.from_residual.result c.from_residual.ensures.1 in
      rw (p.1, p.2, ← c.words.view_is)
      (step_err {T = List (List ℕ)} {U = Product} _ _ (files_step [] (map (λ (name : Bor (List ℕ)). name.now) c.words.inside.files.items)) (λ (held : List Held) (fetched : List (List ℕ)). plain (joined_files c.args.fonts.now fetched)) c.in_err-files.field-0.0
      (rw c.as_slice.ensures.value at c.in_err-files.ensures.is));
}
