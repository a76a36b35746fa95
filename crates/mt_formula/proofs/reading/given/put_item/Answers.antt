use Rattle.std.proofs.Common.{sym, subst}
use Rattle.mt_arena.specs.Arena.{value_in}
use Rattle.mt_arena.specs.Keeping.{HeldLists}
use Rattle.mt_formula.proofs.Giving.{item_put}
use Rattle.mt_formula.proofs.reading.given.put_item.Goals as goal

pub push-requires-clause-lists : goal.push-requires-clause-lists
push-requires-clause-lists c = subst (λ es. HeldLists (value_in es c.args.thing)) (sym c.in_ok-push_last.ensures.closed) c.requires.thing.1

pub returns-clause-is : goal.returns-clause-is
returns-clause-is c =
    item_put _ c.push_last.new.arena _ c.args.run.now c.args.thing c.requires.last c.requires.thing c.in_ok-push_last.ensures.adds c.in_ok-push_last.ensures.closed
    c.in_ok-push.ensures.is c.in_ok-push.ensures.below c.in_ok-push.ensures.closed
