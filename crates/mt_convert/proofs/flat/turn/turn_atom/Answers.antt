use Rattle.std.proofs.Common.{sym, subst}
use Rattle.mt_convert.proofs.Common.{rest_in}
use Rattle.mt_convert.specs.inner.Boundaries.{RestOfList}
use Rattle.mt_convert.proofs.Remaining.{joined_rest}
use Rattle.mt_convert.proofs.flat.turn.turn_atom.Goals as goal

pub returns-in-Some-Join-clause-boundaries : goal.returns-in-Some-Join-clause-boundaries
returns-in-Some-Join-clause-boundaries c = λ enclosed h.
    let es = c.args.arena.now.closed in
    subst (RestOfList enclosed) (sym c.join.ensures.is)
    (joined_rest enclosed (record { fam = c.in-Some-symbol_pair.pair.fam; code = c.in-Some-Join.code }) (rest_in es c.next_symbol.new.rest)
    (subst (RestOfList enclosed) (sym c.next_symbol.ensures.same) h))
