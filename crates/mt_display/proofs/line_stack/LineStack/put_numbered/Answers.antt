use Rattle.std.proofs.Common.{◌∙◌, ◌+ℤ◌, ◌^◌, lit<, subst, Ok, Err}
use Rattle.mt_display.proofs.Common.{err_from_is_err_and, kept, pack, row_width, fitted, PutsLines, is_left, line_boxes}
use Rattle.mt_family.specs.Sets.{sy}
use Rattle.mt_family.specs.declared.size.Size.TheVariants.{Text}
use Rattle.mt_display.specs.inner.OnStack.{fit_of_row}
use Rattle.mt_display.proofs.Displaying.{both_as, line_kept, numbered_made, numbered_refused, puts_err}
use Rattle.mt_display.proofs.LineStacks.{boxes_length}
use Rattle.mt_display.proofs.line_stack.LineStack.put_numbered.Goals as goal

pub returns-in_err-slot : goal.returns-in_err-slot
returns-in_err-slot c lines row number first end is =
    let p = err_from_is_err_and c.from_residual.result c.from_residual.ensures.1 in
    let s = both_as (line_boxes lines) row number (Err c.in_err-slot.field-0.0) c.set_both.new.pieces (c.in_err-slot.ensures.is (line_boxes lines) row number is.pieces (boxes_length lines ∙ first) end) (line_kept c.args.line c.requires.some c.requires.in_range) (kept (2 ^ 31) _ c.sy.ensures.small (lit< tt) ∙ c.sy.ensures.is) in
    rw (p.1, p.2) (puts_err c.in_err-slot.field-0.0 lines _ _ (numbered_refused c.in_err-slot.field-0.0 (sy c.args.fonts.now 6 Text) c.args.line (is_left c.args.side) (line_boxes lines) row number c.set_both.new.pieces s))

pub returns : goal.returns
returns c lines row number first end is =
    let s = both_as (line_boxes lines) row number (Ok c.in_ok-slot.slot) c.set_both.new.pieces (c.in_ok-slot.ensures.is (line_boxes lines) row number is.pieces (boxes_length lines ∙ first) end) (line_kept c.args.line c.requires.some c.requires.in_range) (kept (2 ^ 31) _ c.sy.ensures.small (lit< tt) ∙ c.sy.ensures.is) in
    let display = fitted row (fit_of_row c.args.line row (row_width number) (row_width number +ℤ sy c.args.fonts.now 6 Text)).target in
    subst (PutsLines c.put_both.result lines c.put_both.new.self) (numbered_made (sy c.args.fonts.now 6 Text) c.args.line (is_left c.args.side) (line_boxes lines) row number c.set_both.new.pieces c.in_ok-slot.slot s)
    (c.put_both.ensures lines display (pack number) (record { pieces = s.pieces; shifts = is.shifts }) s.slot.w)
