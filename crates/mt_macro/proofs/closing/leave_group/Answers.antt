use Rattle.std.proofs.Common.{sym, ◌∙◌}
use Rattle.mt_macro.proofs.Ending.{leaving_start, leaving_at, leaving_open}
use Rattle.mt_macro.proofs.Mapped.{mapped_front, mapped_empty}
use Rattle.mt_macro.proofs.Balances.{ends_next, ends_later, leaving_later}
use Rattle.mt_macro.proofs.closing.leave_group.Goals as goal

pub loop-rest-init : goal.loop-rest-init
loop-rest-init g c = record { leaving = leaving_start _ _; ends = c.requires.ends }

pub returns-then-closes_none : goal.returns-then-closes_none
returns-then-closes_none g c =
    leaving_at _ _ _ _ _ _ (g.L.Lexicon.token c.args.tables.now c.item-item.result) c.loop-rest.invariant.leaving
    (mapped_front (g.L.Lexicon.token c.args.tables.now) _ _ c.in-len1-up.len_at_least c.item-item.is) (sym c.closes_none.ensures ∙ c.if-closes_none.true)

pub end_of_group-requires : goal.end_of_group-requires
end_of_group-requires g c =
    ends_next (g.L.Lexicon.token c.args.tables.now) _ c.item-item.result _ _ c.in-len1-up.len_at_least c.item-item.is c.loop-rest.invariant.ends c.ends_from-known.ensures

pub returns : goal.returns
returns g c = leaving_open _ _ _ _ _ c.loop-rest.invariant.leaving (mapped_empty (g.L.Lexicon.token c.args.tables.now) _ c.in_default.len_below)

pub loop-rest-preserved-in-Some : goal.loop-rest-preserved-in-Some
loop-rest-preserved-in-Some g c =
    let known = c.in-Some.ensures in
    let next =
    ends_next (g.L.Lexicon.token c.args.tables.now) _ c.item-item.result _ _ c.in-len1-up.len_at_least c.item-item.is c.loop-rest.invariant.ends c.ends_from-known.ensures in
    record {
      leaving = leaving_later (g.L.Lexicon.token c.args.tables.now) _ _ _ _ _ c.loop-rest.rest.now c.item-item.result c.loop-rest.invariant.leaving c.in-len1-up.len_at_least c.item-item.is
          (sym c.closes_none.ensures ∙ c.if-closes_none.false) known.0 known.1 known.2;
      ends = ends_later (g.L.Lexicon.token c.args.tables.now) _ _ _ _ next c.ends_from-known-in-Some.ensures;
    }
