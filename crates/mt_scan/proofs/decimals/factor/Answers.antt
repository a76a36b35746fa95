use Rattle.std.proofs.Common.{map, sym, subst}
use Rattle.mt_scan.specs.Meets.{MeetsBy}
use Rattle.std.proofs.lemmas.List.{length-map}
use Rattle.mt_scan.proofs.Capping.{factor_by}
use Rattle.mt_scan.proofs.decimals.factor.Goals as goal

pub returns-clause-is : goal.returns-clause-is
returns-clause-is g c = subst (MeetsBy (g.R.Lexicon.token c.args.tables.now) c.after_whole.result) (sym (factor_by _ _ (map (g.R.Lexicon.token c.args.tables.now) c.args.tokens.now) _ _ (length-map c.digits-whole.result.rest.now (g.R.Lexicon.token c.args.tables.now)) (length-map c.args.tokens.now (g.R.Lexicon.token c.args.tables.now)) c.digits-whole.ensures.value c.digits-whole.ensures.rest)) c.after_whole.ensures.is
