use Rattle.mt_formula.proofs.Giving.{atom_put}
use Rattle.mt_formula.proofs.reading.given.put_atom.Goals as goal

pub returns-clause-is : goal.returns-clause-is
returns-clause-is c = atom_put _ _ c.args.run.now c.args.noad c.requires.last c.requires.noad c.in_ok-push_last.ensures.adds c.in_ok-push_last.ensures.closed
