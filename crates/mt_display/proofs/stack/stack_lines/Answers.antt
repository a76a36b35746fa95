use Rattle.std.proofs.Common.{◌∙◌, ◌^◌, ℤ, List, [], ap, arith, length, subst, sym, All}
use Rattle.mt_display.proofs.Common.{length-map, take_all, Within, IsStack, line_shifts, LineValue, line_values}
use Rattle.mt_display.proofs.TakenLines.{lines_length, one_more_put, small_shifts}
use Rattle.mt_display.proofs.stack.stack_lines.Goals as goal

pub loop-line-preserved : goal.loop-line-preserved
loop-line-preserved c =
    subst (λ (ls : List LineValue). IsStack ls [] c.put_line.new.self) (sym (one_more_put c.as_slice-line-items.result.now c.loop-line.line-index c.line-item.result c.loop-line-test.true c.line-item.is))
    (c.in_ok-put_line.ensures _ c.loop-line.invariant)

pub places-requires-clause-few : goal.places-requires-clause-few
places-requires-clause-few c =
    let all = take_all c.loop-line.line-index c.as_slice-line-items.result.now c.loop-line-test.false in
    let s = c.loop-line.invariant.shifts ∙ ap (λ ls. line_shifts (line_values ls)) (all ∙ c.as_slice-line-items.ensures) in
    omega (arith, ap length s, length-map (line_values c.args.lines.now) (λ (l : LineValue). l.shift), lines_length c.args.lines.now, c.requires.few)

pub places-requires-clause-shifts : goal.places-requires-clause-shifts
places-requires-clause-shifts c =
    let all = take_all c.loop-line.line-index c.as_slice-line-items.result.now c.loop-line-test.false in
    let s = c.loop-line.invariant.shifts ∙ ap (λ ls. line_shifts (line_values ls)) (all ∙ c.as_slice-line-items.ensures) in
    subst (All (λ (x : ℤ). Within (2 ^ 40) x)) (sym s) (small_shifts c.args.lines.now c.requires.shifts)
