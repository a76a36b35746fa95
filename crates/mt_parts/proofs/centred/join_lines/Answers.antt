use Rattle.std.proofs.Common.{◌∙◌, ap, arith, pos, ℤ}
use Rattle.mt_box.specs.marks.Layers.{joined, moved_layer}
use Rattle.mt_parts.proofs.Lining.{edge_small, joined_more}
use Rattle.mt_parts.proofs.centred.join_lines.Goals as goal

pub baseline_above-baseline-requires-clause-top : goal.baseline_above-baseline-requires-clause-top
baseline_above-baseline-requires-clause-top c = edge_small c.args.rows.now c.loop-i.i _ c.args.whole.depth c.requires.few c.requires.rows c.loop-i.invariant.edge c.requires.whole.depth

pub loop-i-preserved : goal.loop-i-preserved
loop-i-preserved c =
    let ls = c.loop-i.marks in
    let right = ap (λ (x : ℤ). moved_layer 1 x c.up_by.result.up ls) c.up_by.ensures.right in
    let up = ap (λ (y : ℤ). moved_layer 1 (pos 0) y ls) c.up_by.ensures.up in
    let more = joined_more c.args.rows.now c.loop-i.i _ _ _ c.baseline_above-baseline.result.sp c.plus-top.result.sp c.args.whole.depth _ ls c.join.new.self c.requires.rows (omega (arith, c.loop-i-test.true)) c.loop-i.invariant.within c.loop-i.invariant.edge c.loop-i.invariant.marks
    c.gap_below.ensures.is c.baseline_above-baseline.ensures.is (c.join.ensures ∙ ap joined (c.in_ok-shift.ensures ∙ (right ∙ up))) c.plus-top.ensures in
    record { within = omega (arith, c.loop-i.invariant.within); edge = more.0; marks = more.1 }
