use Rattle.mt_macro.proofs.Balances.{pushes}
use Rattle.mt_macro.proofs.arguments.push_part.Goals as goal

pub returns : goal.returns
returns g c = pushes _ _ _ _ c.requires.parts c.requires.run c.requires.whole c.in_ok-push.ensures.items
