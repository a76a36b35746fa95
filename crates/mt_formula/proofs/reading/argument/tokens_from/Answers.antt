use Rattle.mt_formula.proofs.Mapped.{drop_mapped}
use Rattle.mt_formula.proofs.reading.argument.tokens_from.Goals as goal

pub returns-clause-is : goal.returns-clause-is
returns-clause-is g c = drop_mapped (g.R.Lexicon.token c.args.roles.now) c.args.start c.args.tokens.now
