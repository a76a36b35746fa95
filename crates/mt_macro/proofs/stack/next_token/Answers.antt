use Rattle.std.proofs.Common.{sym, ap, subst}
use Rattle.mt_macro.specs.declared.run.Place.{Place}
use Rattle.mt_macro.specs.declared.run.Run.{Run}
use Rattle.mt_macro.specs.inner.Runs.{sources, read_at, GivesToken}
use Rattle.mt_macro.proofs.Stacks.{gives_token}
use Rattle.mt_macro.proofs.stack.next_token.Goals as goal

pub returns : goal.returns
returns g c =
    let v = rw c.in-Some.is at c.in_ok-run.ensures in
    let src = sources (g.B.Lexicon.token c.args.tables.now) (g.B.Bodies.placed c.args.tables.now) (g.B.Bodies.body c.args.tables.now) c.args.list.now in
    subst
    (λ (p : Place). GivesToken src c.args.parts.now.runs.items c.args.rest.now c.put_from.new.rest
    (read_at (g.B.Lexicon.token c.args.tables.now) (g.B.Bodies.placed c.args.tables.now) c.args.list.now p c.first_single.result.item.now) c.first_single.result.run)
    (sym (ap (λ (r : Run). r.place) c.first_single.ensures.run))
    (gives_token _ _ _ _ _ _ _ _ v.0 v.1 c.in_ok-put_from.ensures.left c.in_ok-put_from.ensures.is c.first_single.ensures.run c.first_single.ensures.item)
