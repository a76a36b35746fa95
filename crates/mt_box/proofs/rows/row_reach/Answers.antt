use Rattle.std.proofs.Common.{◌≡◌, ◌≤◌, ◌^◌, ◌∷◌, ◌∙◌, ap, arith, drop, length, refl, sym, subst}
use Rattle.mt_box.specs.Rows.{AllMeasurable}
use Rattle.mt_box.proofs.Lists.{item_before}
use Rattle.mt_box.proofs.Packing.{measurable_at, reaching_end, reaching_step, reaching_wide}
use Rattle.mt_box.proofs.rows.row_reach.Goals as goal

pub part_of-requires : goal.part_of-requires
part_of-requires c =
    rw (c.index-pieces-i.is) (measurable_at c.as_slice-pieces.result.now _ _ (subst AllMeasurable (sym c.as_slice-pieces.ensures) c.requires.measurable) (omega (arith, c.loop-i.invariant.within, c.loop-i-test.true)))

pub with-reach-requires : goal.with-reach-requires
with-reach-requires c =
    let few : length c.as_slice-pieces.result.now ≤ 2 ^ 21 = rw (c.as_slice-pieces.ensures) c.requires.few in
    let sums = reaching_wide c.as_slice-pieces.result.now _ c.loop-i.i c.loop-i.reach c.loop-i.invariant.reaching refl few in
    record { width = sums.0; shrink = sums.1; part = c.part_of.ensures.near }

pub loop-i-preserved : goal.loop-i-preserved
loop-i-preserved c =
    let p = c.part_of.ensures in
    let e = c.with-reach.ensures in
    record {
      within = omega (arith, c.loop-i.invariant.within);
      reaching = reaching_step _ _ c.index-pieces-i.result c.part_of.result c.loop-i.reach c.with-reach.result c.loop-i.invariant.reaching
          (item_before c.as_slice-pieces.result.now c.loop-i.i _ (omega (arith, c.loop-i-test.true)) c.loop-i.invariant.within ∙ ap (λ z. z ∷ drop c.loop-i.i c.as_slice-pieces.result.now) (sym c.index-pieces-i.is))
          p.is p.near p.high p.deep (record { width = e.width; height = e.height; depth = e.depth; shrink = e.shrink });
    }

pub returns : goal.returns
returns c =
    let none : c.loop-i.i ≡ 0 = omega (arith, c.loop-i-test.false) in
    let e = reaching_end c.args.row.now _ c.loop-i.reach c.loop-i.invariant.reaching (ap (λ i. drop i c.as_slice-pieces.result.now) none ∙ c.as_slice-pieces.ensures) c.requires.few in
    record { width = e.width; height = e.height; depth = e.depth; shrink = e.shrink; wide = e.wide; high = e.high; deep = e.deep; soft = e.soft }
