use Rattle.std.proofs.Common.{map}
use Rattle.mt_reader.specs.DocumentTurns.{state_of}
use Rattle.mt_reader.specs.Views.{state_view}
use Rattle.mt_reader.proofs.CountedTurning.{words_spent, words_turn}
use Rattle.mt_reader.proofs.counted_turn.counted_turn_ahead.Goals as goal

pub returns-in-Ok-Some-clause-is : goal.returns-in-Ok-Some-clause-is
returns-in-Ok-Some-clause-is g c =
    let token = g.K.Lexicon.token in
    let view = state_view g.K.Roles.codes g.K.Bodies.macros in
    λ more.
    rw (c.counted.ensures, c.left.ensures)
    (words_turn (token c.turn_ahead.new.state.tables) c.args.units (state_of (view c.args.state.now)) (view c.args.state.now) (view c.turn_ahead.new.state) c.args.whole c.args.role (map (token c.args.state.now.tables) c.args.after.now) c.in-Ok-Some.turn (λ m. rw c.in-Ok-Some.field-0-is at c.in-Ok-Some.ensures.is m) more)

pub returns-in-Ok-Some-clause-spends : goal.returns-in-Ok-Some-clause-spends
returns-in-Ok-Some-clause-spends g c =
    let token = g.K.Lexicon.token in
    let view = state_view g.K.Roles.codes g.K.Bodies.macros in
    rw (c.counted.ensures, c.left.ensures)
    (words_spent (token c.turn_ahead.new.state.tables) c.args.units (state_of (view c.args.state.now)) (view c.args.state.now) (view c.turn_ahead.new.state) c.args.whole c.args.role (map (token c.args.state.now.tables) c.args.after.now) c.in-Ok-Some.turn (λ m. rw c.in-Ok-Some.field-0-is at c.in-Ok-Some.ensures.is m) (rw c.in-Ok-Some.field-0-is at c.in-Ok-Some.ensures.spends))
