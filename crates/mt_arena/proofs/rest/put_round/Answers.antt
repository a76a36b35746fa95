use Rattle.std.proofs.Common.{sym, ap, ◌∙◌, subst}
use Rattle.mt_rules.specs.Sequence.{End}
use Rattle.mt_arena.specs.Rest.{stacked_on, SpansWithin}
use Rattle.mt_arena.proofs.Leaving.{stacked_last, spans_last}
use Rattle.mt_arena.proofs.rest.put_round.Goals as goal

pub returns-clause-is : goal.returns-clause-is
returns-clause-is c = λ es. ap (λ x. stacked_on es x End) c.in_ok-push.ensures.items ∙ stacked_last es c.args.outer.now.items c.args.at End

pub returns-clause-within : goal.returns-clause-within
returns-clause-within c = λ n h k. subst (λ x. SpansWithin n x) (sym c.in_ok-push.ensures.items) (spans_last n c.args.outer.now.items c.args.at k h)
