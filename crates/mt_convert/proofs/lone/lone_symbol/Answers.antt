use Rattle.std.proofs.Common.{◌≡◌, subst, IfSome}
use Rattle.mt_convert.proofs.Common.{sequence_in, End, More}
use Rattle.mt_convert.specs.inner.Spans.{atom_in}
use Rattle.mt_convert.proofs.LoneSymbols.{lone_cleans}
use Rattle.mt_convert.proofs.lone.lone_symbol.Goals as goal

pub returns-in-Some : goal.returns-in-Some
returns-in-Some c =
    let es = c.args.arena.now.closed in
    let e = subst (λ o. IfSome o (λ atom. sequence_in es c.args.list ≡ More (atom_in es atom) End)) c.in-Some.is c.lone_atom.ensures.is in
    lone_cleans es c.in-Some.atom (sequence_in es c.args.list) c.first_symbol.result e (c.first_symbol.ensures es)
