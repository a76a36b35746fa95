use Rattle.std.proofs.Common.{sym, ◌∙◌, map}
use Rattle.std.proofs.lemmas.List.{take-map}
use Rattle.mt_macro.proofs.Mapped.{mapped_front}
use Rattle.mt_reader.proofs.Cutting.{formula_ends, formula_more, formula_start}
use Rattle.mt_reader.proofs.dollars.up_to_end.Goals as goal

pub returns-then-ends_here-clause-is : goal.returns-then-ends_here-clause-is
returns-then-ends_here-clause-is g c =
    let token = g.L.Lexicon.token c.args.tables.now in
    rw (← take-map token c.loop-rest.at c.args.tokens.now, c.after_end.ensures.is token)
    (formula_ends c.args.display (map token c.args.tokens.now) (map token c.loop-rest.rest.now) _ c.loop-rest.level c.loop-rest.at (token c.token-item.result) c.loop-rest.invariant (mapped_front token _ _ c.in-len1-up.len_at_least c.token-item.is) (sym c.closes_none.ensures ∙ c.if-closes_none.false) (sym c.ends_here.ensures ∙ c.if-ends_here.true))

pub loop-rest-init : goal.loop-rest-init
loop-rest-init g c = formula_start _ _

pub loop-rest-preserved : goal.loop-rest-preserved
loop-rest-preserved g c =
    let token = g.L.Lexicon.token c.args.tables.now in
    formula_more _ _ _ _ _ _ _ (token c.token-item.result) c.loop-rest.invariant (mapped_front token _ _ c.in-len1-up.len_at_least c.token-item.is) (sym c.closes_none.ensures ∙ c.if-closes_none.false) (sym c.ends_here.ensures ∙ c.if-ends_here.false) c.level_after-level.ensures.is c.level_after-level.ensures.small
