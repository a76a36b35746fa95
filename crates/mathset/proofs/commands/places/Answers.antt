use Rattle.mathset.specs.Steps.{typeset_steps}
use Rattle.mathset.proofs.MadeLemmas.{listing_made}
use Rattle.mathset.proofs.commands.places.Goals as goal

pub returns-clause-is : goal.returns-clause-is
returns-clause-is g c = listing_made _ _ (typeset_steps c.args.words.now) c.typeset.result c.typeset.ensures.is
