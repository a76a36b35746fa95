use Rattle.std.proofs.Common.{sym, arith, refl}
use Rattle.mt_convert.proofs.Common.{PlacedItem}
use Rattle.std.proofs.Math.ListN.{length-set}
use Rattle.mt_convert.proofs.Settling.{settle_turn, settle_end}
use Rattle.mt_convert.proofs.set.settle.settle_all.Goals as goal

pub loop-i-preserved : goal.loop-i-preserved
loop-i-preserved c = (
  omega (arith, c.loop-i.invariant.0, length-set {A = PlacedItem}),
  settle_turn c.loop-i.items.items c.loop-i.i _ _ c.settle_item.new.item c.loop-i.after c.or-next.result _ c.loop-i-test.true c.loop-i.invariant.0 (sym c.index_mut-item.ensures.value) c.settle_item.ensures (rw c.or-next.ensures (rw c.class_to_left.ensures refl)) c.loop-i.invariant.1,
)

pub returns : goal.returns
returns c = settle_end c.loop-i.items.items c.loop-i.i c.loop-i.after c.args.items.now.items (omega (arith, c.loop-i-test.false)) c.loop-i.invariant.1
