use Rattle.std.proofs.Common.{arith}
use Rattle.std.proofs.lemmas.Int.{ints, clamps}
use Rattle.mt_parts.proofs.accents.raise_of_accent.Goals as goal

pub minus-requires-2-clause-other_small : goal.minus-requires-2-clause-other_small
minus-requires-2-clause-other_small c = record { low = omega (arith, ints, clamps); high = omega (arith, ints, clamps) }

pub plus-requires-clause-self_small : goal.plus-requires-clause-self_small
plus-requires-clause-self_small c = record { low = omega (arith, ints, clamps); high = omega (arith, ints, clamps) }

pub returns-clause-small : goal.returns-clause-small
returns-clause-small c = record { low = omega (arith, ints, clamps); high = omega (arith, ints, clamps) }
