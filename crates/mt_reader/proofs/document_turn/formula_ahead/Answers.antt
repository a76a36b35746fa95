use Rattle.std.proofs.Common.{◌∙◌, ap, map, refl, subst, sym}
use Rattle.std.specs.Prelude.{Ok, Some}
use Rattle.mt_reader.specs.Documents.{DocumentTurn}
use Rattle.mt_reader.specs.DocumentTurns.{MeetsTurn, state_of, turn_refusal}
use Rattle.mt_reader.specs.Dollars.{begins_display, between_dollars}
use Rattle.mt_reader.specs.Lent.{taken_tokens}
use Rattle.mt_reader.specs.Refusals.{IsRefusal}
use Rattle.mt_reader.specs.Views.{state_view}
use Rattle.mt_reader.proofs.Matched.{matched}
use Rattle.mt_reader.proofs.Turning.{turn_taken}
use Rattle.mt_reader.proofs.document_turn.formula_ahead.Goals as goal

pub returns-then-is_page_limit-clause-is : goal.returns-then-is_page_limit-clause-is
returns-then-is_page_limit-clause-is g c =
    λ whole. rw (sym (c.is_page_limit.ensures g.K.Roles.codes g.K.Bodies.macros) ∙ c.if-is_page_limit.true) refl

pub returns-then-is_page_limit-clause-found : goal.returns-then-is_page_limit-clause-found
returns-then-is_page_limit-clause-found g c = rw (sym (c.is_page_limit.ensures g.K.Roles.codes g.K.Bodies.macros) ∙ c.if-is_page_limit.true) tt

pub formula_between-requires-clause-matched : goal.formula_between-requires-clause-matched
formula_between-requires-clause-matched g c =
    let token = g.K.Lexicon.token in
    let between =
    ap (λ k. between_dollars (map (token k) c.args.tokens.now)) (sym c.tables-2.ensures)
    ∙ (c.in-Some.ensures.is ∙ ap (λ k. Some (taken_tokens (token k) c.in-Some.taken)) c.tables-2.ensures) in
    matched (map (token c.args.state.now.tables) c.args.tokens.now) (taken_tokens (token c.args.state.now.tables) c.in-Some.taken) between

pub returns-in-Ok-clause-is : goal.returns-in-Ok-clause-is
returns-in-Ok-clause-is g c =
    let token = g.K.Lexicon.token in
    let view = state_view g.K.Roles.codes g.K.Bodies.macros in
    let tables = c.args.state.now.tables in
    let few = sym (c.is_page_limit.ensures g.K.Roles.codes g.K.Bodies.macros) ∙ c.if-is_page_limit.false in
    let shown = c.begins_display-display.ensures ∙ ap (λ k. begins_display (map (token k) c.args.tokens.now)) c.tables.ensures in
    let between =
    ap (λ k. between_dollars (map (token k) c.args.tokens.now)) (sym c.tables-2.ensures)
    ∙ (c.in-Some.ensures.is ∙ ap (λ k. Some (taken_tokens (token k) c.in-Some.taken)) c.tables-2.ensures) in
    λ whole.
    subst (λ (turn : DocumentTurn). MeetsTurn (token c.formula_between.new.state.tables) (Ok c.in-Ok.after) (view c.formula_between.new.state) whole turn)
    (sym (turn_taken c.args.units (state_of (view c.args.state.now)) (map (token tables) c.args.tokens.now) few c.begins_display-display.result (taken_tokens (token tables) c.in-Some.taken) shown between))
    (c.in-Ok.ensures.is whole)

pub returns-in-Err-clause-is : goal.returns-in-Err-clause-is
returns-in-Err-clause-is g c =
    let token = g.K.Lexicon.token in
    let view = state_view g.K.Roles.codes g.K.Bodies.macros in
    let tables = c.args.state.now.tables in
    let few = sym (c.is_page_limit.ensures g.K.Roles.codes g.K.Bodies.macros) ∙ c.if-is_page_limit.false in
    let shown = c.begins_display-display.ensures ∙ ap (λ k. begins_display (map (token k) c.args.tokens.now)) c.tables.ensures in
    let between =
    ap (λ k. between_dollars (map (token k) c.args.tokens.now)) (sym c.tables-2.ensures)
    ∙ (c.in-Some.ensures.is ∙ ap (λ k. Some (taken_tokens (token k) c.in-Some.taken)) c.tables-2.ensures) in
    λ whole.
    subst (λ (turn : DocumentTurn). IsRefusal c.in-Err.error (turn_refusal whole turn))
    (sym (turn_taken c.args.units (state_of (view c.args.state.now)) (map (token tables) c.args.tokens.now) few c.begins_display-display.result (taken_tokens (token tables) c.in-Some.taken) shown between))
    (c.in-Err.ensures.is whole)

pub returns-in-None-clause-found : goal.returns-in-None-clause-found
returns-in-None-clause-found g c = (
  sym (c.is_page_limit.ensures g.K.Roles.codes g.K.Bodies.macros) ∙ c.if-is_page_limit.false,
  ap (λ k. between_dollars (map (g.K.Lexicon.token k) c.args.tokens.now)) (sym c.tables-2.ensures) ∙ c.in-None.ensures.is,
)
