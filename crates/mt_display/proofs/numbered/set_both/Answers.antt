use Rattle.std.proofs.Common.{◌++◌, ◌∷◌, [], ◌∙◌, ◌+ℤ◌, ◌-◌, ap, pos, refl, Ok, Err}
use Rattle.mt_display.proofs.Common.{err_from_is_err_and, PieceBox, row_shrink, row_width, fitted}
use Rattle.std.specs.Prelude.{⊤}
use Rattle.mt_display.specs.inner.OnStack.{fit_of_row}
use Rattle.mt_display.proofs.Displaying.{both_set, both_unset, fit_e, number_behind, number_refused, packs_as, row_set}
use Rattle.mt_display.proofs.numbered.set_both.Goals as goal

pub returns-in_err-slot-clause-is : goal.returns-in_err-slot-clause-is
returns-in_err-slot-clause-is c before row number is first end =
    let p = err_from_is_err_and c.from_residual-in_err-slot.result c.from_residual-in_err-slot.ensures.1 in
    let w = c.number_widths-widths.ensures in
    let a = c.in_ok-at.ensures in
    let s = row_set before row number c.args.pieces.now c.put_behind.new.self c.set_display.new.pieces _ _ _ c.in_ok-at.at c.number_widths-widths.result c.args.quad.sp c.args.z.sp (Err c.in_err-slot.field-0.0) is first end c.saturating_sub.ensures a.pieces a.number w.e w.q c.in_err-slot.ensures.is in
    rw (p.1, p.2) (both_unset c.in_err-slot.field-0.0 (before ++ number) before row number c.set_display.new.pieces c.set_display.new.pieces (fit_of_row c.args.z.sp row (row_width number) (row_width number +ℤ c.args.quad.sp)) c.args.z.sp s)

pub returns-in_err-pack-clause-is : goal.returns-in_err-pack-clause-is
returns-in_err-pack-clause-is c before row number is first end =
    let p = err_from_is_err_and c.from_residual-in_err-pack.result c.from_residual-in_err-pack.ensures.1 in
    let w = c.number_widths-widths.ensures in
    let a = c.in_ok-at.ensures in
    let b = c.in_ok-at-2.ensures in
    let s = row_set before row number c.args.pieces.now c.put_behind.new.self c.set_display.new.pieces _ _ _ c.in_ok-at.at c.number_widths-widths.result c.args.quad.sp c.args.z.sp (Ok c.in_ok-slot.slot) is first end c.saturating_sub.ensures a.pieces a.number w.e w.q c.in_ok-slot.ensures.is in
    let n = number_behind before row number c.args.pieces.now c.set_display.new.pieces c.put_behind-2.new.self _ _ _ _ c.in_ok-at-2.at is first end (c.saturating_sub-number.ensures ∙ ap (λ k. k - c.args.end) c.len.ensures) s.pieces b.pieces b.number in
    rw (p.1, p.2) (number_refused c.in_err-pack.field-0.0 before row number _ c.pack.new.self (fit_of_row c.args.z.sp row (row_width number) (row_width number +ℤ c.args.quad.sp)) c.args.z.sp s.made (packs_as {U = ⊤} c.in_ok-at-2.at (Err c.in_err-pack.field-0.0) c.pack.new.self c.in_err-pack.ensures n))

pub returns-clause-is : goal.returns-clause-is
returns-clause-is c before row number is first end =
    let w = c.number_widths-widths.ensures in
    let a = c.in_ok-at.ensures in
    let b = c.in_ok-at-2.ensures in
    let x = c.with_box.ensures in
    let f = fit_of_row c.args.z.sp row (row_width number) (row_width number +ℤ c.args.quad.sp) in
    let s = row_set before row number c.args.pieces.now c.put_behind.new.self c.set_display.new.pieces _ _ _ c.in_ok-at.at c.number_widths-widths.result c.args.quad.sp c.args.z.sp (Ok c.in_ok-slot.slot) is first end c.saturating_sub.ensures a.pieces a.number w.e w.q c.in_ok-slot.ensures.is in
    let n = number_behind before row number c.args.pieces.now c.set_display.new.pieces c.put_behind-2.new.self _ _ _ _ c.in_ok-at-2.at is first end (c.saturating_sub-number.ensures ∙ ap (λ k. k - c.args.end) c.len.ensures) s.pieces b.pieces b.number in
    both_set before row number (before ++ PieceBox (pos 0) (fitted row f.target) ∷ []) c.pack.new.self (fitted row f.target) f.e c.args.z.sp c.last_width.result.sp c.in_ok-slot.slot c.with_box.result s.slot s.made
    (packs_as {U = ⊤} c.in_ok-at-2.at (Ok c.in_ok-pack.field-0) c.pack.new.self c.in_ok-pack.ensures n) refl c.last_width.ensures.is (fit_e c.args.z.sp (row_width row) (row_shrink row) (row_width number) (row_width number +ℤ c.args.quad.sp)) x.z x.w x.e x.flush
