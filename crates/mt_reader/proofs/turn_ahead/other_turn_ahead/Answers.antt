use Rattle.std.proofs.Common.{◌++◌, map}
use Rattle.std.specs.Prelude.{Err, Ok, Some}
use Rattle.mt_reader.specs.Documents.{turn_by}
use Rattle.mt_reader.specs.DocumentTurns.{state_of}
use Rattle.mt_reader.specs.Views.{state_view}
use Rattle.mt_reader.proofs.Ahead.{meets_ahead, turn_local}
use Rattle.mt_reader.proofs.turn_ahead.other_turn_ahead.Goals as goal

pub returns-in-Ok-clause-is : goal.returns-in-Ok-clause-is
returns-in-Ok-clause-is g c =
    let token = g.K.Lexicon.token c.document_turn.new.state.tables in
    let new = state_view g.K.Roles.codes g.K.Bodies.macros c.document_turn.new.state in
    let s = state_of (state_view g.K.Roles.codes g.K.Bodies.macros c.args.state.now) in
    let tokens = map (g.K.Lexicon.token c.args.state.now.tables) c.args.tokens.now in
    let enough = rw c.tables.ensures at c.are_enough.ensures c.if-not-are_enough.false in
    λ more.
    meets_ahead token (Ok (Some c.in-Ok.after)) new c.args.whole more (turn_by c.args.units s tokens c.args.role) (turn_by c.args.units s (tokens ++ more) c.args.role) c.in-Ok.ensures.is (turn_local more c.args.units s tokens c.args.role enough)

pub returns-in-Err-clause-is : goal.returns-in-Err-clause-is
returns-in-Err-clause-is g c =
    let token = g.K.Lexicon.token c.document_turn.new.state.tables in
    let new = state_view g.K.Roles.codes g.K.Bodies.macros c.document_turn.new.state in
    let s = state_of (state_view g.K.Roles.codes g.K.Bodies.macros c.args.state.now) in
    let tokens = map (g.K.Lexicon.token c.args.state.now.tables) c.args.tokens.now in
    let enough = rw c.tables.ensures at c.are_enough.ensures c.if-not-are_enough.false in
    λ more.
    meets_ahead token (Err c.in-Err.error) new c.args.whole more (turn_by c.args.units s tokens c.args.role) (turn_by c.args.units s (tokens ++ more) c.args.role) c.in-Err.ensures.is (turn_local more c.args.units s tokens c.args.role enough)
