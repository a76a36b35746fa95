use Rattle.std.proofs.Common.{◌∙◌}
use Rattle.std.proofs.lemmas.Result.{err_from_is_err_and}
use Rattle.mt_parts.proofs.Rooting.{before_fault, behind_fault, kerns_pass}
use Rattle.mt_parts.proofs.root.root_kerns.Goals as goal

pub returns-in_err-before-clause-is : goal.returns-in_err-before-clause-is
returns-in_err-before-clause-is c =
    let p = err_from_is_err_and c.from_residual.result c.from_residual.ensures.1 in
    rw (p.1, p.2) (before_fault _ _ c.in_err-before.field-0.0 (rw c.in_points.ensures at c.in_err-before.ensures.is))

pub returns-in_err-behind-clause-is : goal.returns-in_err-behind-clause-is
returns-in_err-behind-clause-is c =
    let p = err_from_is_err_and c.from_residual-in_err-behind.result c.from_residual-in_err-behind.ensures.1 in
    rw (p.1, p.2) (behind_fault _ _ c.in_err-behind.field-0.0 (rw c.in_points.ensures at c.in_ok-before.ensures.is.1) (rw c.in_points-2.ensures at c.in_err-behind.ensures.is))

pub returns-clause-is : goal.returns-clause-is
returns-clause-is c =
    kerns_pass _ _ record { before = c.in_ok-before.before; behind = c.in_ok-behind.behind } (c.in_ok-before.ensures.is.0 ∙ c.in_points.ensures) (c.in_ok-behind.ensures.is.0 ∙ c.in_points-2.ensures)
    (rw c.in_points.ensures at c.in_ok-before.ensures.is.1) (rw c.in_points-2.ensures at c.in_ok-behind.ensures.is.1)
