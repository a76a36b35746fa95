use Rattle.std.proofs.Common.{List, ap, refl, ◌∙◌}
use Rattle.std.specs.Prelude.{Some}
use Rattle.mt_outside.specs.declared.files.Held.{Held}
use Rattle.mathset.specs.Samples.{sample_files, sample_words}
use Rattle.mathset.specs.Steps.{typeset_steps}
use Rattle.mathset.proofs.MadeLemmas.{summary_made}
use Rattle.mathset.proofs.sample.generated_summary.Goals as goal

pub returns : goal.returns
returns c = record {
  is =
      rw (← c.sample.view_is)
      (summary_made _ _ (typeset_steps sample_words) c.sample.inside.count c.typeset.result (sample_files c.sample.inside.seed c.sample.inside.count)
      (ap (λ (files : List Held). Some files) (c.new-cabinet.ensures ∙ (rw (← c.sample.view_is) at c.in_ok-sample_files.ensures))) refl refl c.typeset.ensures.is);
}
