use Rattle.mt_delim.proofs.Runs.{runs_are}
use Rattle.mt_delim.proofs.extensible.runs_of.Goals as goal

pub returns-clause-is : goal.returns-clause-is
returns-clause-is c = runs_are c.args.recipe c.args.n c.below_middle-below.result c.below_middle-below.ensures.is
