use Rattle.std.proofs.Common.{◌++◌, map, subst, sym}
use Rattle.mt_reader.specs.AheadTurns.{MeetsAhead}
use Rattle.mt_reader.specs.declared.outside_role.OutsideRole.{OutsideRole}
use Rattle.mt_reader.specs.Documents.{formula_turn, is_page_limit, turn_by}
use Rattle.mt_reader.specs.DocumentTurns.{state_of}
use Rattle.mt_reader.specs.Dollars.{between_dollars}
use Rattle.mt_reader.specs.Views.{state_view}
use Rattle.mt_reader.proofs.Ahead.{formula_ahead_meets, formula_local}
use Rattle.mt_reader.proofs.turn_ahead.turn_ahead.Goals as goal

pub returns-in-BeginsFormula-clause-is : goal.returns-in-BeginsFormula-clause-is
returns-in-BeginsFormula-clause-is g c =
    let token = g.K.Lexicon.token c.formula_ahead.new.state.tables in
    let new = state_view g.K.Roles.codes g.K.Bodies.macros c.formula_ahead.new.state in
    let s = state_of (state_view g.K.Roles.codes g.K.Bodies.macros c.args.state.now) in
    let tokens = map (g.K.Lexicon.token c.args.state.now.tables) c.args.tokens.now in
    let limit = is_page_limit s in
    λ more.
    subst (λ (role : OutsideRole). MeetsAhead token c.formula_ahead.result new c.args.whole more (turn_by c.args.units s (tokens ++ more) role)) (sym c.in-BeginsFormula.is)
    (formula_ahead_meets token c.formula_ahead.result new c.args.whole more limit (between_dollars tokens) (formula_turn c.args.units s tokens limit) (formula_turn c.args.units s (tokens ++ more) limit)
    (c.formula_ahead.ensures.is c.args.whole) c.formula_ahead.ensures.found (λ d. formula_local more c.args.units s tokens limit d))
