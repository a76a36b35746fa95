use Rattle.std.proofs.Common.{arith, ap, length}
use Rattle.std.proofs.lemmas.List.{length-map}
use Rattle.mt_macro.specs.inner.Runs.{read_at}
use Rattle.mt_macro.proofs.Stacks.{one_mapped}
use Rattle.mt_macro.proofs.stack.first_single.Goals as goal

pub item_at-requires : goal.item_at-requires
item_at-requires g c = omega (arith, c.requires, ap length c.items_of-items.ensures, length-map c.items_of-items.result.now (read_at (g.B.Lexicon.token c.args.tables.now) (g.B.Bodies.placed c.args.tables.now) c.args.list.now c.args.run.place))

pub returns-clause-item : goal.returns-clause-item
returns-clause-item g c =
    one_mapped (read_at (g.B.Lexicon.token c.args.tables.now) (g.B.Bodies.placed c.args.tables.now) c.args.list.now c.args.run.place) _ c.items_of-items.result.now c.args.run.start c.item_at.result.now c.items_of-items.ensures
    (omega (arith, c.requires, ap length c.items_of-items.ensures, length-map c.items_of-items.result.now (read_at (g.B.Lexicon.token c.args.tables.now) (g.B.Bodies.placed c.args.tables.now) c.args.list.now c.args.run.place))) c.item_at.ensures
