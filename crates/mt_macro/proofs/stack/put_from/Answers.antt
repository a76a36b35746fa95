use Rattle.std.proofs.Common.{refl, arith, ◌+◌, ◌-◌}
use Rattle.mt_macro.proofs.Stacks.{put_more}
use Rattle.mt_macro.proofs.stack.put_from.Goals as goal

pub returns-clause-left : goal.returns-clause-left
returns-clause-left g c = (put_more _ _ _ _ _ _ _ c.requires.left c.requires.run c.requires.basic c.requires.from (omega arith) refl c.in_ok-push.ensures.items refl).0

pub returns-clause-is : goal.returns-clause-is
returns-clause-is g c =
    (put_more _ _ c.args.rest.now (record { runs = c.push.new.self; count = c.args.rest.now.count + (c.args.run.end - c.args.from) }) c.args.run _ c.args.from
    c.requires.left c.requires.run c.requires.basic c.requires.from (omega arith) refl c.in_ok-push.ensures.items refl).1
