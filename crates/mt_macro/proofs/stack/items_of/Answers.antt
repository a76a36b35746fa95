use Rattle.mt_macro.proofs.SameKinds.{items_in_place}
use Rattle.mt_macro.proofs.stack.items_of.Goals as goal

pub returns-in-Body : goal.returns-in-Body
returns-in-Body g c =
    items_in_place (g.B.Lexicon.token c.args.tables.now) (g.B.Bodies.placed c.args.tables.now) c.args.list.now (g.B.Bodies.body c.args.tables.now) c.in-Body.called c.args.place c.body.result.now c.in-Body.is c.body.ensures.is
