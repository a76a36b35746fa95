use Rattle.mt_family.specs.Limits.{max_fonts}
use Rattle.mt_dvi.proofs.DistinctLemmas.{none_set}
use Rattle.mt_dvi.proofs.defined.DefinedFonts.with_capacity.Goals as goal

pub invariant_of-result : goal.invariant_of-result
invariant_of-result c = λ n lt. rw c.in_ok-with_capacity.ensures.items (none_set max_fonts n)
