use Rattle.std.proofs.Common.{◌∙◌, ◌∷◌, ◌++◌, [], ◌-ℤ◌, ◌^◌, ap, append_assoc, arith, pos, subst, sym, if◌then◌else◌}
use Rattle.mt_display.proofs.Common.{PieceBox, indent, room_between, MoreLines, PutsLines, is_left, line_boxes}
use Rattle.mt_display.proofs.Displaying.{boxes_in_order, lines_apart, lines_in_one, wider}
use Rattle.mt_display.proofs.LineStacks.{two_more_lines, zero_small}
use Rattle.mt_display.proofs.line_stack.LineStack.put_both.Goals as goal

pub returns-in_ok-end_line-2 : goal.returns-in_ok-end_line-2
returns-in_ok-end_line-2 c lines display number is w =
    let s = c.args.slot in
    let left = is_left c.args.side in
    let row = c.in_ok-put_in_order.ensures (line_boxes lines) (PieceBox (pos 0) display) (PieceBox (pos 0) number) is.pieces ∙ ap (λ ps. line_boxes lines ++ ps) (boxes_in_order left display number) in
    let a = c.in_ok-end_line.ensures lines (if left then number else display) (PieceBox (pos 0) (if left then display else number) ∷ []) (record { pieces = row; shifts = is.shifts }) in
    let width = c.last_width.ensures.is (line_boxes lines ++ PieceBox (pos 0) display ∷ []) (pos 0) number (is.pieces ∙ sym (append_assoc (line_boxes lines) (PieceBox (pos 0) display ∷ []) (PieceBox (pos 0) number ∷ []))) in
    let small = wider _ (2 ^ 40) _ c.indent-d.ensures.small (omega arith) in
    subst (MoreLines lines c.end_line-then-is_zero.new.self)
    (sym (lines_apart left s.z.sp s.e.sp (indent s.flush s.z.sp s.w.sp s.e.sp) _ _ _ _ display number (sym c.is_zero.ensures ∙ c.if-is_zero.true) c.indent-d.ensures.is (c.right_end-right.ensures.is ∙ ap (λ x. s.z.sp -ℤ x) width) c.choose.ensures.is c.choose-then-is_zero.ensures.is))
    (two_more_lines lines _ _ c.end_line-then-is_zero.new.self (c.in_ok-end_line-2.ensures _ (if left then display else number) [] a) (c.choose.ensures.small (2 ^ 40) zero_small small) (c.choose-then-is_zero.ensures.small (2 ^ 40) small c.right_end-right.ensures.small))

pub returns-else-is_zero : goal.returns-else-is_zero
returns-else-is_zero c lines display number is w =
    let s = c.args.slot in
    let left = is_left c.args.side in
    let row = c.in_ok-put_in_order.ensures (line_boxes lines) (PieceBox (pos 0) display) (PieceBox (pos 0) number) is.pieces ∙ ap (λ ps. line_boxes lines ++ ps) (boxes_in_order left display number) in
    let room = c.room_between.ensures.is ∙ ap (λ x. room_between s.z.sp x s.e.sp c.indent-d.result.sp) w in
    subst (PutsLines c.put_beside.result lines c.put_beside.new.self)
    (lines_in_one left s.z.sp s.e.sp (indent s.flush s.z.sp s.w.sp s.e.sp) _ _ _ display number (sym c.is_zero.ensures ∙ c.if-is_zero.false) c.indent-d.ensures.is room c.choose-else-is_zero.ensures.is)
    (c.put_beside.ensures lines (if left then number else display) (if left then display else number) (record { pieces = row; shifts = is.shifts }))
