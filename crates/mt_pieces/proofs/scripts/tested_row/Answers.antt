use Rattle.std.proofs.Common.{◌∙◌, Result, Ok, Err, IfOk, ap, subst}
use Rattle.std.specs.Option.{ForSome}
use Rattle.mt_box.specs.declared.extents.Extents.{Extents}
use Rattle.mt_box.specs.declared.error.PackError.{PackError}
use Rattle.mt_box.specs.Extents.{ExtentsInRange}
use Rattle.mt_rules.specs.OnMarks.{ExtentsTested}
use Rattle.mt_pieces.specs.inner.Taken.{AttachesOn, reach_with}
use Rattle.mt_pieces.proofs.Attached.{row_tested, raise_small}
use Rattle.mt_pieces.proofs.scripts.tested_row.Goals as goal

pub returns-in-Err-tested_extents-clause-is : goal.returns-in-Err-tested_extents-clause-is
returns-in-Err-tested_extents-clause-is c = λ ms ps setting e is.
    let r : Result Extents PackError = Err c.in-Err-tested_extents.fault in
    row_tested c.in-Ok.piece r c.args.row ms ps setting e (subst (λ z. ExtentsTested z r) c.reach_with.ensures c.in-Err-tested_extents.ensures.is)
    (subst (λ z. AttachesOn ms z ps setting) c.in-Ok.is is)

pub returns-in-Ok-tested_extents-clause-is : goal.returns-in-Ok-tested_extents-clause-is
returns-in-Ok-tested_extents-clause-is c = λ ms ps setting e is.
    let r : Result Extents PackError = Ok c.in-Ok-tested_extents.field-0 in
    row_tested c.in-Ok.piece r c.args.row ms ps setting e (subst (λ z. ExtentsTested z r) c.reach_with.ensures c.in-Ok-tested_extents.ensures.is)
    (subst (λ z. AttachesOn ms z ps setting) c.in-Ok.is is)

pub returns-in-Ok-tested_extents-clause-laid : goal.returns-in-Ok-tested_extents-clause-laid
returns-in-Ok-tested_extents-clause-laid c = λ x e.
    let range = (subst (λ z. IfOk z (λ o. ForSome o (λ p. ExtentsInRange p.extents))) c.in-Ok.is c.requires.in_range) x e in
    let reach = subst ExtentsInRange (c.in-Ok-tested_extents.ensures.is.0 ∙ (c.reach_with.ensures ∙ ap (reach_with c.args.row) e)) c.in-Ok-tested_extents.ensures.in_range in
    record { extents = range; raise = raise_small c.args.row x range reach }
