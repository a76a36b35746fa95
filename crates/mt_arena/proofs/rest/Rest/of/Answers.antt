use Rattle.std.proofs.Common.{ap, ◌∙◌}
use Rattle.mt_rules.specs.Sequence.{End}
use Rattle.mt_arena.specs.Arena.{sequence_in}
use Rattle.mt_arena.specs.Rest.{append_list, stacked_on}
use Rattle.mt_arena.proofs.Leaving.{append_end}
use Rattle.mt_arena.proofs.rest.Rest.of.Goals as goal

pub returns-clause-is : goal.returns-clause-is
returns-clause-is c = λ es.
    ap (λ ss. append_list (sequence_in es c.args.span) (stacked_on es ss End)) c.new.ensures.items ∙ append_end (sequence_in es c.args.span)
