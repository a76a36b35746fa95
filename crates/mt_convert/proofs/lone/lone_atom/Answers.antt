use Rattle.std.proofs.Common.{◌≡◌, arith, subst, slice_get, Some}
use Rattle.mt_convert.proofs.Common.{value_in}
use Rattle.mt_convert.proofs.LoneLists.{lone_found, lone_thing}
use Rattle.mt_convert.proofs.lone.lone_atom.Goals as goal

pub returns-in-Atom-clause-is : goal.returns-in-Atom-clause-is
returns-in-Atom-clause-is c =
    lone_thing c.args.arena.now.closed c.args.list c.in-Atom.atom (omega (arith, c.saturating_sub.ensures, c.if-saturating_sub-ne1.false)) c.requires.within
    (subst (λ t. slice_get c.args.arena.now.closed c.args.list.start ≡ Some (value_in c.args.arena.now.closed t)) c.in-Atom.is c.thing.ensures.is)

pub returns-in-Atom-clause-modest : goal.returns-in-Atom-clause-modest
returns-in-Atom-clause-modest c =
    lone_found c.args.arena.now.closed c.args.list c.in-Atom.atom c.thing.result.now c.requires (omega (arith, c.saturating_sub.ensures, c.if-saturating_sub-ne1.false)) c.in-Atom.is c.thing.ensures.is c.thing.ensures.before c.thing.ensures.lists
