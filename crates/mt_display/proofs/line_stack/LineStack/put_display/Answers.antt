use Rattle.std.proofs.Common.{[], arith, pos, refl, Ok, Err}
use Rattle.mt_display.proofs.Common.{err_from_is_err_and, fitted, line_boxes}
use Rattle.mt_display.specs.inner.OnStack.{fit_of_row}
use Rattle.mt_display.proofs.Displaying.{alone_made, alone_refused, line_kept, puts_err, sets_as, wider}
use Rattle.mt_display.proofs.LineStacks.{behind_lines, one_more_line, up_to_lines}
use Rattle.mt_display.proofs.line_stack.LineStack.put_display.Goals as goal

pub returns-in_err-slot : goal.returns-in_err-slot
returns-in_err-slot c lines row first is =
    let p = err_from_is_err_and c.from_residual.result c.from_residual.ensures.1 in
    let s = sets_as {e' = pos 0} {q' = pos 0} (Err c.in_err-slot.field-0.0) c.set_display.new.pieces c.in_err-slot.ensures.is (up_to_lines lines row c.args.self.now c.args.first first is) (behind_lines lines row c.args.self.now c.args.first first is) refl refl (line_kept c.args.line c.requires.some c.requires.in_range) in
    rw (p.1, p.2) (puts_err c.in_err-slot.field-0.0 lines _ _ (alone_refused c.in_err-slot.field-0.0 _ c.args.line (line_boxes lines) row c.set_display.new.pieces s))

pub returns : goal.returns
returns c lines row first is =
    let s = sets_as {e' = pos 0} {q' = pos 0} (Ok c.in_ok-slot.slot) c.set_display.new.pieces c.in_ok-slot.ensures.is (up_to_lines lines row c.args.self.now c.args.first first is) (behind_lines lines row c.args.self.now c.args.first first is) refl refl (line_kept c.args.line c.requires.some c.requires.in_range) in
    let display = fitted row (fit_of_row c.args.line row (pos 0) (pos 0)).target in
    one_more_line lines (record { shift = c.indent.result.sp; body = display }) _ _ (c.in_ok-end_line.ensures lines display [] (record { pieces = s.pieces; shifts = is.shifts }))
    (alone_made _ c.args.line c.indent.result.sp row c.in_ok-slot.slot s.slot s.made c.indent.ensures.is) (wider _ _ _ c.indent.ensures.small (omega arith))
