use Rattle.std.proofs.Common.{sym, ◌∙◌, arith}
use Rattle.std.proofs.lemmas.List.{length-map}
use Rattle.mt_macro.proofs.Mapped.{mapped_front, mapped_empty}
use Rattle.mt_macro.proofs.Fillings.{walking_start, walking_here, walking_within, walking_more, walking_end}
use Rattle.mt_macro.proofs.filling.next_parameter.Goals as goal

pub loop-rest-init : goal.loop-rest-init
loop-rest-init g c = walking_start _

pub returns-then-begins_parameter-clause-is : goal.returns-then-begins_parameter-clause-is
returns-then-begins_parameter-clause-is g c =
    walking_here _ _ _ _ (g.L.Lexicon.token c.args.tables.now c.item-item.result) c.loop-rest.invariant
    (mapped_front (g.L.Lexicon.token c.args.tables.now) _ _ c.in-len1-up.len_at_least c.item-item.is) (sym c.begins_parameter.ensures ∙ c.if-begins_parameter.true)

pub loop-rest-preserved : goal.loop-rest-preserved
loop-rest-preserved g c =
    walking_more _ _ _ _ (g.L.Lexicon.token c.args.tables.now c.item-item.result) c.loop-rest.invariant
    (mapped_front (g.L.Lexicon.token c.args.tables.now) _ _ c.in-len1-up.len_at_least c.item-item.is) (sym c.begins_parameter.ensures ∙ c.if-begins_parameter.false)

pub returns-clause-is : goal.returns-clause-is
returns-clause-is g c = walking_end _ _ _ c.loop-rest.invariant (mapped_empty (g.L.Lexicon.token c.args.tables.now) _ c.in_default.len_below)

pub returns-then-begins_parameter-clause-within : goal.returns-then-begins_parameter-clause-within
returns-then-begins_parameter-clause-within g c =
    let w = walking_within _ _ _ _ (g.L.Lexicon.token c.args.tables.now c.item-item.result) c.loop-rest.invariant
    (mapped_front (g.L.Lexicon.token c.args.tables.now) _ _ c.in-len1-up.len_at_least c.item-item.is) (sym c.begins_parameter.ensures ∙ c.if-begins_parameter.true) in
    omega (arith, w, length-map c.args.items.now (g.L.Lexicon.token c.args.tables.now))
