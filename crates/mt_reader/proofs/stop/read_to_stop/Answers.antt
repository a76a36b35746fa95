use Rattle.std.proofs.Common.{◌≡◌, ◌∙◌, ap, arith, refl, subst, sym, List, length}
use Rattle.mt_token.specs.declared.token.Token.{Token}
use Rattle.mt_macro.specs.Table.{Table}
use Rattle.mt_plain.specs.CodeTables.{CodeTables, plain_codes}
use Rattle.mt_plain.specs.PlainMacros.{plain_table}
use Rattle.mt_reader.specs.Documents.{start_state}
use Rattle.mt_reader.specs.DocumentTurns.{state_of}
use Rattle.mt_reader.specs.Stops.{AtFormula, definition_tokens, is_wanted}
use Rattle.mt_reader.specs.StopReading.{IsAhead}
use Rattle.mt_reader.specs.Views.{token_view}
use Rattle.mt_reader.specs.declared.token_tables.TokenTables.{TokenTables}
use Rattle.mt_reader.proofs.Stopping.{ahead_none, ahead_start, at_end, at_fault, at_more, at_wanted, can_more, can_start, empty_is, front_is, viewed}
use Rattle.mt_reader.proofs.stop.read_to_stop.Goals as goal

pub loop-rest-init : goal.loop-rest-init
loop-rest-init c =
    let start : state_of (token_view c.start-state.result) ≡ start_state plain_codes plain_table =
    c.start-state.ensures.is (λ (t : TokenTables). t.codes) (λ (t : TokenTables). t.macros)
    ∙ (ap (λ (codes : CodeTables). start_state codes c.in-Ok.tables.macros) c.in-Ok.ensures.codes
    ∙ ap (λ (macros : Table). start_state plain_codes macros) c.in-Ok.ensures.macros) in
    record {
      is = subst (λ d. IsAhead c.args.units c.args.formula plain_codes plain_table c.args.source.now (definition_tokens d) (token_view c.start-state.result) c.args.source.now)
          (sym c.new-definitions.ensures.items) (ahead_start c.args.units c.args.formula plain_codes plain_table c.args.source.now (token_view c.start-state.result) start);
      can = can_start plain_codes plain_table (token_view c.start-state.result) c.args.source.now start c.requires.source;
      short = omega arith;
    }

pub returns-then-is_wanted : goal.returns-then-is_wanted
returns-then-is_wanted c =
    let old = token_view c.loop-rest.state in
    let definitions = definition_tokens c.loop-rest.definitions.items in
    let front = front_is c.loop-rest.rest.now c.token-item.result c.in-len1-up.len_at_least c.token-item.is in (
      AtFormula,
      refl,
      at_wanted c.args.units c.args.formula plain_codes plain_table c.args.source.now definitions old c.token-item.result _ c.loop-rest.rest.now c.outside_role-role.result front c.outside_role-role.ensures
          c.loop-rest.invariant.is (sym c.is_wanted.ensures ∙ c.if-is_wanted.true)
          ∙ viewed AtFormula (state_of old) definitions c.loop-rest.rest.now c.into_tables.result.codes c.into_tables.result.macros
          (ap (λ (t : TokenTables). t.codes) c.into_tables.ensures) (ap (λ (t : TokenTables). t.macros) c.into_tables.ensures),
    )

pub loop-rest-preserved : goal.loop-rest-preserved
loop-rest-preserved c =
    let old = token_view c.loop-rest.state in
    let new = token_view c.turn.new.state in
    let definitions = definition_tokens c.loop-rest.definitions.items in
    let front = front_is c.loop-rest.rest.now c.token-item.result c.in-len1-up.len_at_least c.token-item.is in
    let met = rw c.in-Ok-Left.field-0-is at c.in-Ok-Left.ensures.is in
    let spent = rw c.in-Ok-Left.field-0-is at c.in-Ok-Left.ensures.spends in
    record {
      is = subst (λ (d : List (List Token)). IsAhead c.args.units c.args.formula plain_codes plain_table c.args.source.now d new c.in-Ok-Left.left.now)
          (sym c.in_ok-note_definition-in-Ok-Left.ensures)
          (at_more c.args.units c.args.formula plain_codes plain_table c.args.source.now definitions old c.token-item.result _ c.loop-rest.rest.now c.outside_role-role.result front c.outside_role-role.ensures
          c.loop-rest.invariant.is (sym c.is_wanted.ensures ∙ c.if-is_wanted.false) new c.in-Ok-Left.left.now met.0 met.1 met.2 spent.falls);
      can = can_more old new c.token-item.result c.loop-rest.rest.now _ c.in-Ok-Left.left.now front c.loop-rest.invariant.can spent;
      short = omega (arith, c.loop-rest.invariant.short, spent.falls, ap (λ (l : List Token). length l) front);
    }

pub returns-in-Ok-Ended : goal.returns-in-Ok-Ended
returns-in-Ok-Ended c =
    let old = token_view c.loop-rest.state in
    let definitions = definition_tokens c.loop-rest.definitions.items in
    let front = front_is c.loop-rest.rest.now c.token-item.result c.in-len1-up.len_at_least c.token-item.is in
    at_end c.args.units c.args.formula plain_codes plain_table c.args.source.now definitions old c.token-item.result _ c.loop-rest.rest.now c.outside_role-role.result front c.outside_role-role.ensures
    c.loop-rest.invariant.is (sym c.is_wanted.ensures ∙ c.if-is_wanted.false) _ (rw c.in-Ok-Ended.field-0-is at c.in-Ok-Ended.ensures.is)

pub returns-in-Err : goal.returns-in-Err
returns-in-Err c =
    let old = token_view c.loop-rest.state in
    let definitions = definition_tokens c.loop-rest.definitions.items in
    let front = front_is c.loop-rest.rest.now c.token-item.result c.in-len1-up.len_at_least c.token-item.is in
    let found = at_fault c.args.units c.args.formula plain_codes plain_table c.args.source.now definitions old c.token-item.result _ c.loop-rest.rest.now c.outside_role-role.result front c.outside_role-role.ensures
    c.loop-rest.invariant.is (sym c.is_wanted.ensures ∙ c.if-is_wanted.false) c.in-Err.error c.in_ok-fault_cause-in-Err.field-0 c.in_ok-fault_cause-in-Err.ensures c.in-Err.ensures.is in (
      found.0,
      found.1,
      found.2 ∙ viewed found.0 (state_of old) definitions c.loop-rest.rest.now c.into_tables-in-Err.result.codes c.into_tables-in-Err.result.macros
          (ap (λ (t : TokenTables). t.codes) c.into_tables-in-Err.ensures ∙ c.in-Err.ensures.keeps.codes)
          (ap (λ (t : TokenTables). t.macros) c.into_tables-in-Err.ensures ∙ c.in-Err.ensures.keeps.macros),
    )

pub returns : goal.returns
returns c =
    let definitions = definition_tokens c.loop-rest.definitions.items in
    ahead_none c.args.units c.args.formula plain_codes plain_table c.args.source.now definitions (token_view c.loop-rest.state)
    (subst (IsAhead c.args.units c.args.formula plain_codes plain_table c.args.source.now definitions (token_view c.loop-rest.state)) (empty_is c.loop-rest.rest.now c.in_default-rest.len_below) c.loop-rest.invariant.is)
