use Rattle.mathset.proofs.CopyLemmas.{pick_as_join, pick_told}
use Rattle.mathset.proofs.copies.pick_refusal.Goals as goal

pub returns-in-BadFile : goal.returns-in-BadFile
returns-in-BadFile c = rw c.in-BadFile.is (λ copy answer told. pick_told copy answer _ _ _ c.dvi_refusal.ensures.told told)

pub returns-in_default : goal.returns-in_default
returns-in_default c = λ copy answer told. pick_as_join _ copy answer _ c.in_default.not-BadFile c.in_default.not-OutOfMemory told (c.join_refusal.ensures copy answer told)
