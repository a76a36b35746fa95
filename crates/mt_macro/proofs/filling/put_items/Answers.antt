use Rattle.std.proofs.Common.{refl, arith, map}
use Rattle.std.proofs.lemmas.List.{length-map}
use Rattle.mt_macro.proofs.Fillings.{puts_run}
use Rattle.mt_macro.proofs.SameKinds.{called_length}
use Rattle.mt_macro.proofs.filling.put_items.Goals as goal

pub returns : goal.returns
returns g c =
    let token = g.B.Lexicon.token c.args.tables.now in
    let size = called_length (g.B.Bodies.placed c.args.tables.now) (map token c.args.list.now) (g.B.Bodies.body c.args.tables.now) c.args.called in
    puts_run _ _ _ _ _ _ (omega arith, omega (arith, c.requires.within, size), omega (arith, c.requires.call, length-map c.args.list.now token))
    c.in_ok-push.ensures.items refl refl
