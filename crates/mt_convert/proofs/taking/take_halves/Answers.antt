use Rattle.std.proofs.Common.{◌≡◌, ap, arith, subst, sym, take}
use Rattle.mt_convert.specs.inner.Taken.{AreTaken}
use Rattle.mt_convert.proofs.TakenRows.{taken_turn, taken_end}
use Rattle.mt_convert.proofs.taking.take_halves.Goals as goal

pub loop-i-preserved : goal.loop-i-preserved
loop-i-preserved c = (
  omega (arith, c.loop-i.invariant.0),
  taken_turn c.args.items.now c.loop-i.i _ c.args.pieces c.loop-i.pieces c.take_half.new.pieces c.loop-i.halves.items c.push.new.self.items c.in_ok-half.half
      c.loop-i-test.true c.loop-i.invariant.0 c.loop-i.invariant.1 c.in_ok-half.ensures.is c.in_ok-half.ensures.others c.in_ok-push.ensures.items,
)

pub returns : goal.returns
returns c =
    let z : c.loop-i.i ≡ 0 = omega (arith, c.loop-i-test.false) in
    subst (λ hs. AreTaken hs c.args.items.now c.args.pieces) (sym c.reverse.ensures.items)
    (taken_end c.args.items.now (take c.loop-i.i c.args.items.now) c.args.pieces c.loop-i.pieces c.loop-i.halves.items c.loop-i.invariant.1 (ap (λ k. take k c.args.items.now) z))
