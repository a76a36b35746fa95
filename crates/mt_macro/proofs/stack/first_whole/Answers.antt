use Rattle.std.proofs.Common.{sym, ◌∙◌}
use Rattle.mt_macro.proofs.Stacks.{opens_itself, remainder_opened}
use Rattle.mt_macro.proofs.stack.first_whole.Goals as goal

pub open-requires-clause-opened : goal.open-requires-clause-opened
open-requires-clause-opened g c = remainder_opened _ (sym c.is_remainder.ensures ∙ c.if-is_remainder.true)

pub returns-else-is_remainder : goal.returns-else-is_remainder
returns-else-is_remainder g c = opens_itself _ _ _ c.args.run c.requires.runs c.requires.run (sym c.is_remainder.ensures ∙ c.if-is_remainder.false)
