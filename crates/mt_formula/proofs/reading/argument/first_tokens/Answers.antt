use Rattle.mt_formula.proofs.Mapped.{take_mapped}
use Rattle.mt_formula.proofs.reading.argument.first_tokens.Goals as goal

pub returns-clause-is : goal.returns-clause-is
returns-clause-is g c = take_mapped (g.R.Lexicon.token c.args.roles.now) c.args.count c.args.tokens.now
