use Rattle.mathset.proofs.CopyLemmas.{join_told}
use Rattle.mathset.proofs.copies.join_refusal.Goals as goal

pub returns-in-BadFile : goal.returns-in-BadFile
returns-in-BadFile c = rw c.in-BadFile.is (λ copy answer told. join_told copy answer _ _ _ c.file_refusal.ensures.told told)
