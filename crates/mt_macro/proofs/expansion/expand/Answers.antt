use Rattle.std.proofs.Common.{sym, ap, ◌∙◌}
use Rattle.std.proofs.lemmas.Result.{err_from_is_err_and}
use Rattle.mt_macro.specs.Expansion.{Expanded}
use Rattle.mt_macro.proofs.Unplaced.{err_expands, ok_expands}
use Rattle.mt_macro.proofs.expansion.expand.Goals as goal

pub returns-in_err-expand-clause-is : goal.returns-in_err-expand-clause-is
returns-in_err-expand-clause-is c =
    let p = err_from_is_err_and c.from_residual.result c.from_residual.ensures.1 in
    rw (p.1, p.2) (err_expands c.args.macros.now c.args.list.now c.expand.new.out.items _ c.in_err-expand.ensures.is)

pub returns-clause-is : goal.returns-clause-is
returns-clause-is c = ok_expands c.args.macros.now c.args.list.now c.expand.new.out.items c.in_ok-expand.ensures.is ∙ ap Expanded (sym c.from_vec.ensures)
