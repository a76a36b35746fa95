-- The joined file of a cut source, by the lemma on its pages.
use Rattle.mathset.proofs.CutLemmas.{cut_joined}
use Rattle.mathset.proofs.laws.cut_set_and_joined.Goals as goal

pub returns : goal.returns
returns c = λ set width lines front rest cut all pages more. cut_joined set width lines front rest cut all pages more
