use Rattle.std.proofs.Common.{subst, Result}
use Rattle.mt_convert.proofs.Common.{SetFault}
use Rattle.std.specs.Prelude.{⊤}
use Rattle.mt_convert.specs.inner.OnPieces.{SetsBoxOn}
use Rattle.mt_convert.proofs.NucleiOn.{box_as_operator}
use Rattle.mt_convert.proofs.set.nucleus.part_operator.Goals as goal

pub returns : goal.returns
returns c = λ old new setting h. box_as_operator old new setting (subst (λ (r : Result ⊤ SetFault). SetsBoxOn r old new setting) c.in_ok-part.was h)
