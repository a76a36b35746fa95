use Rattle.std.proofs.Common.{arith, refl}
use Rattle.mt_macro.proofs.Runs.{opens_more, opens_last, in_parts, older}
use Rattle.mt_macro.proofs.stack.open.Goals as goal

pub part_of-first-requires : goal.part_of-first-requires
part_of-first-requires g c = (in_parts _ _ c.args.run c.requires.run c.requires.opened).0

pub returns-in_ok-push-clause-is : goal.returns-in_ok-push-clause-is
returns-in_ok-push-clause-is g c =
    opens_more _ _ _ _ _ _ _ _ c.requires.parts c.requires.runs c.requires.run c.requires.opened c.part_of-first.ensures c.left_after-count.ensures refl c.if-run.true c.in_ok-push.ensures.items

pub returns-in_ok-push-clause-older : goal.returns-in_ok-push-clause-older
returns-in_ok-push-clause-older g c = older _ _ _ _ c.requires.parts c.requires.run c.requires.opened c.part_of-first.ensures

pub returns-else-run-clause-is : goal.returns-else-run-clause-is
returns-else-run-clause-is g c =
    opens_last _ _ _ _ _ _ c.requires.parts c.requires.runs c.requires.run c.requires.opened c.part_of-first.ensures (omega (arith, c.if-run.false)) refl

pub returns-else-run-clause-older : goal.returns-else-run-clause-older
returns-else-run-clause-older g c = older _ _ _ _ c.requires.parts c.requires.run c.requires.opened c.part_of-first.ensures
