use Rattle.std.proofs.Common.{◌<◌, subst, arith, sym, ◌∙◌}
use Rattle.mt_macro.proofs.Unmatched.{watching_start, watching_close, watching_more, watching_some}
use Rattle.mt_macro.proofs.Unmatched.{watching_none, watching_within}
use Rattle.std.proofs.lemmas.List.{length-map}
use Rattle.mt_macro.proofs.Mapped.{mapped_front, mapped_empty}
use Rattle.mt_macro.proofs.braces.first_unmatched.Goals as goal

pub loop-rest-init : goal.loop-rest-init
loop-rest-init g c = watching_start _ _

pub returns-then-closes_none-clause-is : goal.returns-then-closes_none-clause-is
returns-then-closes_none-clause-is g c =
    watching_close _ _ _ _ _ _ ((g.L.Lexicon.token c.args.tables.now) c.token-item.result) c.loop-rest.invariant
    (mapped_front (g.L.Lexicon.token c.args.tables.now) _ _ c.in-len1-up.len_at_least c.token-item.is) (sym c.closes_none.ensures ∙ c.if-closes_none.true)

pub loop-rest-preserved : goal.loop-rest-preserved
loop-rest-preserved g c =
    watching_more _ _ _ _ _ _ _ _ ((g.L.Lexicon.token c.args.tables.now) c.token-item.result) c.loop-rest.invariant
    (mapped_front (g.L.Lexicon.token c.args.tables.now) _ _ c.in-len1-up.len_at_least c.token-item.is) (sym c.closes_none.ensures
    ∙ c.if-closes_none.false) c.level_after-level.ensures.is c.level_after-level.ensures.small
    c.outermost_at-outermost.ensures

pub returns-then-level-gt0-clause-is : goal.returns-then-level-gt0-clause-is
returns-then-level-gt0-clause-is g c =
    watching_some _ _ _ _ _ c.loop-rest.invariant (mapped_empty (g.L.Lexicon.token c.args.tables.now) _ c.in_default.len_below) (omega arith)

pub returns-then-level-gt0-clause-within : goal.returns-then-level-gt0-clause-within
returns-then-level-gt0-clause-within g c =
    subst (λ n. c.loop-rest.outermost < n) (length-map c.args.list.now (g.L.Lexicon.token c.args.tables.now))
    (watching_within _ _ _ _ _ c.loop-rest.invariant (mapped_empty (g.L.Lexicon.token c.args.tables.now) _ c.in_default.len_below) (omega arith))

pub returns-else-level-gt0-clause-is : goal.returns-else-level-gt0-clause-is
returns-else-level-gt0-clause-is g c =
    watching_none _ _ _ _ _ c.loop-rest.invariant (mapped_empty (g.L.Lexicon.token c.args.tables.now) _ c.in_default.len_below) (omega arith)
