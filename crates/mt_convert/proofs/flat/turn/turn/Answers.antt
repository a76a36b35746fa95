use Rattle.std.proofs.Common.{refl, sym, subst}
use Rattle.mt_convert.proofs.Common.{sequence_in, value_in, more_of, rest_in, KeptItem}
use Rattle.mt_convert.specs.inner.Boundaries.{LeavesBy, RestOfList}
use Rattle.mt_convert.specs.inner.Spans.{passed_in}
use Rattle.mt_convert.proofs.Remaining.{choice_rest, chosen_list}
use Rattle.mt_convert.proofs.flat.turn.turn.Goals as goal

pub returns-in-Atom-clause-boundaries : goal.returns-in-Atom-clause-boundaries
returns-in-Atom-clause-boundaries c = λ enclosed h.
    let es = c.args.arena.now.closed in
    subst (λ t. LeavesBy (passed_in es t) enclosed c.turn_atom.result (rest_in es c.turn_atom.new.rest)) (sym c.in-Atom.is)
    (c.turn_atom.ensures.boundaries enclosed (subst (λ t. RestOfList enclosed (more_of (value_in es t) (rest_in es c.args.rest.now))) c.in-Atom.is h))

pub returns-in_ok-choose-in-Choice-clause-boundaries : goal.returns-in_ok-choose-in-Choice-clause-boundaries
returns-in_ok-choose-in-Choice-clause-boundaries c = λ enclosed h.
    let es = c.args.arena.now.closed in
    let v = c.in-Choice.spans in
    let k = subst (KeptItem es) c.in-Choice.is c.requires.front in
    choice_rest enclosed c.args.current.style (sequence_in es v.display) (sequence_in es v.text) (sequence_in es v.script) (sequence_in es v.small) _ (rest_in es c.args.rest.now) (rest_in es c.choose.new.rest)
    refl (chosen_list c.args.current.style _ _ _ _ k.1.1) (c.in_ok-choose-in-Choice.ensures.is es)
    (subst (λ t. RestOfList enclosed (more_of (value_in es t) (rest_in es c.args.rest.now))) c.in-Choice.is h)
