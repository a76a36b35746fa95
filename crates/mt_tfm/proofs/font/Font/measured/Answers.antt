use Rattle.std.proofs.Common.{FitsSigned, rules, w64, arith}
use Rattle.std.proofs.lemmas.Int.{to_z-of_z}
use Rattle.mt_tfm.proofs.font.Font.measured.Goals as goal

pub returns-clause-is : goal.returns-clause-is
returns-clause-is c =
    let width : FitsSigned w64 c.value.result = search rules in
    let height : FitsSigned w64 c.value-2.result = search rules in
    let depth : FitsSigned w64 c.value-3.result = search rules in
    let italic : FitsSigned w64 c.value-4.result = search rules in
    rw (to_z-of_z w64 c.value.result width, to_z-of_z w64 c.value-2.result height, to_z-of_z w64 c.value-3.result depth, to_z-of_z w64 c.value-4.result italic)
    (grind arith)

pub returns-clause-italic : goal.returns-clause-italic
returns-clause-italic c =
    let italic : FitsSigned w64 c.value-4.result = search rules in
    rw (to_z-of_z w64 c.value-4.result italic)
    (c.value-4.ensures.any (rw (c.deref-4.ensures.value) c.self.invariant.italics))
