use Rattle.std.proofs.Common.{Some, ap, sym, ◌∙◌, arith}
use Rattle.mt_arena.specs.Arena.{held_in, value_in}
use Rattle.mt_formula.proofs.Arenas.{lone_atom, lone_kept, lone_other, lone_thing, no_atom, span_length}
use Rattle.mt_formula.proofs.reading.whole_list.atom_of_span.Goals as goal

pub returns-then-saturating_sub-ne1-clause-is : goal.returns-then-saturating_sub-ne1-clause-is
returns-then-saturating_sub-ne1-clause-is c =
    sym (no_atom (held_in c.args.arena.now.closed c.args.span) c.requires.inside (λ e. omega (arith, e, span_length c.args.arena.now.closed c.args.span c.requires.within, c.saturating_sub.ensures, c.if-saturating_sub-ne1.true)))

pub returns-in-Atom-clause-is : goal.returns-in-Atom-clause-is
returns-in-Atom-clause-is c =
    let es = c.args.arena.now.closed in
    let e = lone_thing es c.args.span _ (omega (arith, c.saturating_sub.ensures, c.if-saturating_sub-ne1.false)) c.requires.within (c.thing.ensures.is ∙ ap (λ t. Some (value_in es t)) c.in-Atom.is) in
    sym (lone_atom es _ c.in-Atom.noad e)

pub returns-in-Atom-clause-kept : goal.returns-in-Atom-clause-kept
returns-in-Atom-clause-kept c =
    let es = c.args.arena.now.closed in
    let e = lone_thing es c.args.span _ (omega (arith, c.saturating_sub.ensures, c.if-saturating_sub-ne1.false)) c.requires.within (c.thing.ensures.is ∙ ap (λ t. Some (value_in es t)) c.in-Atom.is) in
    lone_kept es (held_in es c.args.span) c.in-Atom.noad c.args.span.start e c.requires.inside (rw (c.in-Atom.is) at c.thing.ensures.before) (omega (arith, c.saturating_sub.ensures, c.if-saturating_sub-ne1.false, c.requires.within)) (rw (c.in-Atom.is) at c.thing.ensures.lists)

pub returns-in_default : goal.returns-in_default
returns-in_default c =
    let es = c.args.arena.now.closed in
    record { is = sym (lone_other es (held_in es c.args.span) c.thing.result.now (lone_thing es c.args.span _ (omega (arith, c.saturating_sub.ensures, c.if-saturating_sub-ne1.false)) c.requires.within c.thing.ensures.is) c.in_default.not-Atom); kept = tt }
