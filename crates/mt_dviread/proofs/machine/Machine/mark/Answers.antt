use Rattle.std.proofs.Common.{ap, sym, ◌∙◌, FitsSigned, rules, w64}
use Rattle.std.proofs.lemmas.Int.{to_z-of_z}
use Rattle.std.proofs.lemmas.Result.{err_from_is_err_and}
use Rattle.mt_dvi.specs.Machine as machine
use Rattle.mt_dviread.proofs.MachineLemmas.{mark_far}
use Rattle.mt_dviread.proofs.machine.Machine.mark.Goals as goal

pub returns-in_err-pass-clause-performs : goal.returns-in_err-pass-clause-performs
returns-in_err-pass-clause-performs c =
    let p = err_from_is_err_and c.from_residual-in_err-pass.result c.from_residual-in_err-pass.ensures.1 in
    let fits : FitsSigned w64 c.in_ok-code.measured.width = search rules in
    let wide = to_z-of_z w64 c.in_ok-code.measured.width fits in
    rw (p.1, p.2) (mark_far c.args.fonts.now c.args.self.now c.pass.new.self c.args.put c.args.code c.in-Some.number c.in-Some-font.font.now _ c.in_err-pass.field-0.0 (sym (ap (λ (m : machine.Machine). m.font) c.self.view_is) ∙ c.in-Some.is) (sym c.in-Some-font.ensures.is) c.in_ok-code.ensures.is.1 (wide ∙ c.in_ok-code.ensures.width) c.in_err-pass.ensures)
