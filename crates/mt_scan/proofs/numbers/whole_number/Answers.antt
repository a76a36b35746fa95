use Rattle.std.proofs.Common.{map, sym, subst}
use Rattle.std.proofs.lemmas.Result.{err_from_is_err_and}
use Rattle.mt_scan.specs.Meets.{MeetsBy}
use Rattle.std.proofs.lemmas.List.{length-map}
use Rattle.mt_scan.proofs.Capping.{number_by}
use Rattle.mt_scan.proofs.numbers.whole_number.Goals as goal

pub returns-clause-is : goal.returns-clause-is
returns-clause-is g c = subst (MeetsBy (g.R.Lexicon.token c.args.tables.now) c.in_bound.result) (number_by _ (map (g.R.Lexicon.token c.args.tables.now) c.args.tokens.now) _ _ _ (length-map c.args.tokens.now (g.R.Lexicon.token c.args.tables.now)) c.signs-sign.ensures.minus c.signs-sign.ensures.rest c.in_ok-size.ensures.is) c.in_bound.ensures.is

pub returns-in_err-size-clause-is : goal.returns-in_err-size-clause-is
returns-in_err-size-clause-is g c =
    let p = err_from_is_err_and c.from_residual.result c.from_residual.ensures.1 in
    rw (p.1, p.2) (sym (number_by _ (map (g.R.Lexicon.token c.args.tables.now) c.args.tokens.now) _ _ _ (length-map c.args.tokens.now (g.R.Lexicon.token c.args.tables.now)) c.signs-sign.ensures.minus c.signs-sign.ensures.rest c.in_err-size.ensures.is))
