use Rattle.std.proofs.Common.{sym, ◌∙◌}
use Rattle.mt_macro.proofs.Mapped.{mapped_front}
use Rattle.mt_reader.proofs.Defining.{parameters_more}
use Rattle.mt_reader.proofs.definitions.parameters.Goals as goal

pub loop-rest-preserved : goal.loop-rest-preserved
loop-rest-preserved g c =
    let token = g.L.Lexicon.token c.args.tables.now in
    parameters_more _ _ _ _ _ (token c.token-item.result) (token c.digit-item.result) c.loop-rest.invariant (mapped_front token _ _ c.in-len1-up.len_at_least c.token-item.is)
    (mapped_front token _ _ c.in-len1-up-after.len_at_least c.digit-item.is) (sym c.is_parameter.ensures ∙ c.if-not-is_parameter.false) (sym c.is_next_digit.ensures ∙ c.if-is_next_digit.true)
