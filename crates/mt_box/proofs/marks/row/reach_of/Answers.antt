use Rattle.std.proofs.Common.{arith}
use Rattle.mt_box.proofs.Lists.{item_before}
use Rattle.mt_box.proofs.layers.RowSums.{near_at, summed_more, summed_within}
use Rattle.mt_box.proofs.marks.row.reach_of.Goals as goal

pub with-row-requires : goal.with-row-requires
with-row-requires c =
    let s = summed_within c.loop-i.i c.args.parts.now c.loop-i.row c.loop-i.invariant.sums c.requires.near c.requires.few in
    record { width = s.0; shrink = s.1; part = near_at c.args.parts.now _ _ (omega (arith, c.loop-i.invariant.within, c.loop-i-test.true)) c.requires.near }

pub loop-i-preserved : goal.loop-i-preserved
loop-i-preserved c =
    let e = c.with-row.ensures in
    record {
      within = omega (arith, c.loop-i.invariant.within);
      sums = summed_more _ _ _ c.loop-i.row c.with-row.result c.loop-i.invariant.sums (item_before c.args.parts.now c.loop-i.i _ (omega (arith, c.loop-i-test.true)) c.loop-i.invariant.within)
          (record { width = e.width; height = e.height; depth = e.depth; shrink = e.shrink });
    }

pub returns-clause-wide : goal.returns-clause-wide
returns-clause-wide c = (summed_within c.loop-i.i c.args.parts.now c.loop-i.row c.loop-i.invariant.sums c.requires.near c.requires.few).0

pub returns-clause-soft : goal.returns-clause-soft
returns-clause-soft c = (summed_within c.loop-i.i c.args.parts.now c.loop-i.row c.loop-i.invariant.sums c.requires.near c.requires.few).1
