use Rattle.std.proofs.Common.{map}
use Rattle.mt_reader.specs.DocumentTurns.{state_of}
use Rattle.mt_reader.specs.Views.{state_view}
use Rattle.mt_reader.proofs.CountedTurning.{last_spent, last_turn}
use Rattle.mt_reader.proofs.counted_turn.last_counted_turn.Goals as goal

pub returns-in-Ok-clause-is : goal.returns-in-Ok-clause-is
returns-in-Ok-clause-is g c =
    let token = g.K.Lexicon.token in
    let view = state_view g.K.Roles.codes g.K.Bodies.macros in
    rw c.left.ensures
    (last_turn (token c.document_turn.new.state.tables) c.args.units (state_of (view c.args.state.now)) (view c.args.state.now) (view c.document_turn.new.state) c.args.whole c.args.role (map (token c.args.state.now.tables) c.args.after.now) c.in-Ok.turn c.in-Ok.ensures.is)

pub returns-in-Ok-clause-spends : goal.returns-in-Ok-clause-spends
returns-in-Ok-clause-spends g c =
    let token = g.K.Lexicon.token in
    let view = state_view g.K.Roles.codes g.K.Bodies.macros in
    rw c.left.ensures
    (last_spent (token c.document_turn.new.state.tables) c.args.units (state_of (view c.args.state.now)) (view c.args.state.now) (view c.document_turn.new.state) c.args.whole c.args.role (map (token c.args.state.now.tables) c.args.after.now) c.in-Ok.turn c.in-Ok.ensures.is c.in-Ok.ensures.spends)
