use Rattle.mt_formula.proofs.Giving.{limits_kept, limits_put, script_kept, script_put}
use Rattle.mt_formula.proofs.reading.given.put_given.Goals as goal

pub returns-in-Script-clause-is : goal.returns-in-Script-clause-is
returns-in-Script-clause-is c = rw (c.in-Script.is, c.with_script.ensures) (script_put c.args.arena.now c.args.run.now c.in-Script.side c.in-Script.part)

pub returns-in-Script-clause-last : goal.returns-in-Script-clause-last
returns-in-Script-clause-last c = rw (c.with_script.ensures) (script_kept _ c.in-Script.side c.in-Script.part c.args.run.now.last c.requires.last (rw (c.in-Script.is) at c.requires.given))

pub returns-in-Limits-clause-is : goal.returns-in-Limits-clause-is
returns-in-Limits-clause-is c = rw (c.in-Limits.is, c.with_limits-run.ensures) (limits_put c.args.arena.now c.args.run.now c.in-Limits.limits)

pub returns-in-Limits-clause-last : goal.returns-in-Limits-clause-last
returns-in-Limits-clause-last c = rw (c.with_limits-run.ensures) (limits_kept _ c.in-Limits.limits c.args.run.now.last c.requires.last)
