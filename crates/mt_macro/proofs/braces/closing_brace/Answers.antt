use Rattle.std.proofs.Common.{map, sym, ◌∙◌, arith, ap, length, take, drop, ◌-◌}
use Rattle.std.proofs.lemmas.List.{length-map}
use Rattle.mt_macro.proofs.Mapped.{mapped_front}
use Rattle.mt_macro.proofs.Taking.{closing_ends, closing_more, closing_here}
use Rattle.mt_macro.proofs.braces.closing_brace.Goals as goal

pub returns-then-closes_none-clause-is : goal.returns-then-closes_none-clause-is
returns-then-closes_none-clause-is g c =
    let token = g.L.Lexicon.token c.args.tables.now in
    closing_ends _ _ _ _ _ _ c.loop-rest.invariant.is c.loop-rest.invariant.here
    (mapped_front token _ _ c.in-len1-up.len_at_least c.token-item.is) (sym c.closes_none.ensures ∙ c.if-closes_none.true)

pub loop-rest-preserved : goal.loop-rest-preserved
loop-rest-preserved g c =
    let token = g.L.Lexicon.token c.args.tables.now in
    let h = c.loop-rest.invariant in
    let front = mapped_front token _ _ c.in-len1-up.len_at_least c.token-item.is in
    record {
      is = closing_more (map token c.args.tokens.now) _ _ c.loop-rest.level _ c.loop-rest.index _ h.is h.here front (sym c.closes_none.ensures ∙ c.if-closes_none.false) c.level_after-level.ensures.is;
      here = closing_here (map token c.args.tokens.now) (map token c.loop-rest.rest.now) _ c.loop-rest.index _ h.here front;
      within = omega (arith, h.within, ap length front, length-map c.loop-rest.rest.now token, length-map (take (length c.loop-rest.rest.now - 1) (drop 1 c.loop-rest.rest.now)) token);
      low = omega (arith, h.low, c.level_after-level.ensures.small);
    }
