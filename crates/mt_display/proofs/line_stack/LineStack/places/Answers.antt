use Rattle.std.proofs.Common.{◌∙◌, ◌^◌, lit<, pos, refl}
use Rattle.mt_display.proofs.Common.{drop_all, drop_more, err_from_is_err_and, kept}
use Rattle.mt_display.proofs.Stacking.{shift_here, walking_end, walking_err, walking_step}
use Rattle.mt_display.proofs.line_stack.LineStack.places.Goals as goal

pub returns-in_err-next : goal.returns-in_err-next
returns-in_err-next c lines is =
    let p = err_from_is_err_and c.from_residual-in_err-next.result c.from_residual-in_err-next.ensures.1 in
    let e = drop_more c.as_slice-shift-items.result.now c.loop-shift.shift-index (pos 0) c.loop-shift-test.true in
    let small = shift_here _ _ _ _ _ _ _ _ c.loop-shift.invariant e in
    rw (p.1, p.2) (walking_err c.args.room c.args.self.now _ _ _ c.loop-shift.page.items c.add_line.new.page.items c.loop-shift.at c.loop-shift.next c.in_err-next.field-0.0 lines c.loop-shift.invariant e (λ b r l s n k. c.in_err-next.ensures.is b r l s n (kept (2 ^ 40) _ small (lit< tt) ∙ k)) is)

pub loop-shift-preserved : goal.loop-shift-preserved
loop-shift-preserved c =
    let e = drop_more c.as_slice-shift-items.result.now c.loop-shift.shift-index (pos 0) c.loop-shift-test.true in
    let small = shift_here _ _ _ _ _ _ _ _ c.loop-shift.invariant e in
    let a = c.in_ok-next.ensures in
    walking_step c.args.room c.args.self.now _ _ _ c.loop-shift.page.items c.add_line.new.page.items c.loop-shift.at c.place_after-at.result c.loop-shift.next c.in_ok-next.next c.loop-shift.invariant e (λ b r l s n k. a.is b r l s n (kept (2 ^ 40) _ small (lit< tt) ∙ k)) a.line a.near a.room c.place_after-at.ensures.at c.place_after-at.ensures.piece

pub returns : goal.returns
returns c lines is =
    walking_end c.args.room c.args.self.now _ c.loop-shift.page.items c.loop-shift.at c.loop-shift.next lines c.loop-shift.invariant (drop_all c.loop-shift.shift-index c.as_slice-shift-items.result.now c.loop-shift-test.false) is
    ∙ rw c.from_vec.ensures refl
