use Rattle.std.proofs.Common.{ℤ, pos, subst}
use Rattle.mt_convert.proofs.Common.{fraction}
use Rattle.mt_convert.specs.inner.AtomSteps.{lone_box}
use Rattle.mt_convert.specs.inner.OnPieces.{AtomOn}
use Rattle.mt_convert.proofs.RowsOn.{box_as_atom}
use Rattle.mt_convert.proofs.set.parts.fraction.Goals as goal

pub returns : goal.returns
returns c = λ rest n d e.
    let whole = λ (t : ℤ). fraction c.args.fonts.now c.args.style t c.args.left c.args.right n d in
    let t = c.thickness_of-thickness.result.sp in
    let b = c.in_ok-part_set.ensures.boxed rest c.fraction.new.self (whole t) (c.fraction.ensures rest n d e) in
    subst (λ (z : ℤ). AtomOn rest c.fraction.new.self (lone_box (whole z))) c.thickness_of-thickness.ensures.is
    (box_as_atom rest c.fraction.new.self (whole t) b (c.look_at_last.ensures rest (pos 0) b.box b.stays))
