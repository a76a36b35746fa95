use Rattle.mathset.proofs.MadeLemmas.{pure_made}
use Rattle.mathset.proofs.commands.perform.Goals as goal

pub returns-in-Gen-clause-is : goal.returns-in-Gen-clause-is
returns-in-Gen-clause-is g c = rw c.in-Gen.is (pure_made _ _ c.generated_summary.result c.generated_summary.ensures.is)
