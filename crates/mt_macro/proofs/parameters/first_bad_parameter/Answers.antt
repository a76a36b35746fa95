use Rattle.std.proofs.Common.{sym, ◌∙◌}
use Rattle.mt_macro.proofs.Mapped.{mapped_front}
use Rattle.mt_macro.proofs.Hashes.{looking_more}
use Rattle.mt_macro.proofs.parameters.first_bad_parameter.Goals as goal

pub loop-rest-preserved : goal.loop-rest-preserved
loop-rest-preserved g c =
    looking_more _ _ _ _ _ (g.L.Lexicon.token c.args.tables.now c.token-item.result) c.loop-rest.invariant
    (mapped_front (g.L.Lexicon.token c.args.tables.now) _ _ c.in-len1-up.len_at_least c.token-item.is) (sym c.is_bad.ensures ∙ c.if-is_bad.false)
