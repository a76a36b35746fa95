use Rattle.std.proofs.Common.{arith, ◌∙◌, length-set}
use Rattle.mt_macro.proofs.Ending.{ends_step, ends_slices}
use Rattle.mt_macro.proofs.ends.ends_of.Goals as goal

pub end_before-requires-clause-ends : goal.end_before-requires-clause-ends
end_before-requires-clause-ends g c =
    ends_slices (g.L.Lexicon.token c.args.tables.now) c.args.list.now _ _ _ _ (omega arith) c.loop-index.invariant.are c.deref.ensures.value

pub loop-index-preserved : goal.loop-index-preserved
loop-index-preserved g c = record {
  within = omega (arith, c.loop-index.invariant.within);
  all = length-set c.loop-index.ends.items _ c.end_before.result ∙ c.loop-index.invariant.all;
  are = ends_step (g.L.Lexicon.token c.args.tables.now) c.args.list.now c.item_at.result.now c.loop-index.ends.items _ c.loop-index.index c.end_before.result (omega arith) c.loop-index.invariant.within
      c.loop-index.invariant.all c.item_at.ensures c.loop-index.invariant.are c.end_before.ensures;
}
