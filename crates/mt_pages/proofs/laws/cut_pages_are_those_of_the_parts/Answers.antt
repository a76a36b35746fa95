-- The pages of a cut document are those of its parts, by the lemmas on places.
use Rattle.mt_pages.proofs.CutPlaces.{parts_placed, whole_placed}
use Rattle.mt_pages.proofs.laws.cut_pages_are_those_of_the_parts.Goals as goal

pub returns-clause-joined : goal.returns-clause-joined
returns-clause-joined c = parts_placed

pub returns-clause-cut : goal.returns-clause-cut
returns-clause-cut c = whole_placed
