-- A cut source has the pages of its parts, by the lemmas on sources.
use Rattle.mt_pages.proofs.CutSet.{parts_set, whole_set}
use Rattle.mt_pages.proofs.laws.cut_and_set.Goals as goal

pub returns-clause-cut : goal.returns-clause-cut
returns-clause-cut c = λ set width lines front rest cut. whole_set set width lines front rest cut

pub returns-clause-joined : goal.returns-clause-joined
returns-clause-joined c = λ set width lines front rest cut. parts_set set width lines front rest cut
