use Rattle.std.proofs.Common.{map, sym, subst}
use Rattle.std.proofs.lemmas.Result.{err_from_is_err_and}
use Rattle.mt_scan.specs.Meets.{MeetsBy}
use Rattle.std.proofs.lemmas.List.{length-map}
use Rattle.mt_scan.proofs.Capping.{dimension_with}
use Rattle.mt_scan.proofs.dimensions.dimension_from.Goals as goal

pub returns-clause-is : goal.returns-clause-is
returns-clause-is g c =
    subst (MeetsBy (g.R.Lexicon.token c.args.tables.now) c.dimension_of.result)
    (dimension_with _ c.args.units c.args.mu c.args.negative (map (g.R.Lexicon.token c.args.tables.now) c.args.tokens.now) _ _ _ _ _ _ (length-map c.args.tokens.now (g.R.Lexicon.token c.args.tables.now)) c.signs-sign.ensures.minus c.signs-sign.ensures.rest c.in_ok-count.ensures.is c.after_spaces.ensures.is c.in_ok-unit.ensures.is)
    c.dimension_of.ensures.is

pub returns-in_err-unit-clause-is : goal.returns-in_err-unit-clause-is
returns-in_err-unit-clause-is g c =
    let p = err_from_is_err_and c.from_residual-in_err-unit.result c.from_residual-in_err-unit.ensures.1 in
    rw (p.1, p.2) (sym (dimension_with _ c.args.units c.args.mu c.args.negative (map (g.R.Lexicon.token c.args.tables.now) c.args.tokens.now) _ _ _ _ _ _ (length-map c.args.tokens.now (g.R.Lexicon.token c.args.tables.now)) c.signs-sign.ensures.minus c.signs-sign.ensures.rest c.in_ok-count.ensures.is c.after_spaces.ensures.is c.in_err-unit.ensures.is))
