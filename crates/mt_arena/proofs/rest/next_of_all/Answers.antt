use Rattle.std.proofs.Common.{ap, ◌∙◌, subst, length}
use Rattle.mt_rules.specs.Sequence.{End}
use Rattle.mt_arena.specs.Rest.{append_list, stacked_on, SpansWithin}
use Rattle.mt_arena.proofs.Leaving.{stacked_last, spans_front}
use Rattle.mt_arena.proofs.rest.next_of_all.Goals as goal

pub loop-thing-preserved : goal.loop-thing-preserved
loop-thing-preserved c =
    let es = c.args.arena.now.closed in
    let i = c.loop-thing.invariant in
    let e = c.in-Some-pop.ensures.items in
    let w = spans_front (length es) c.pop.new.self.items c.in-Some-pop.next (subst (λ x. SpansWithin (length es) x) e i.1.0) in (
      w.1,
      (
        w.0,
        i.1.1 ∙ (ap (λ s. append_list s (stacked_on es c.loop-thing.outer.items End)) c.in_default.ensures.is.0
            ∙ (ap (λ x. stacked_on es x End) e ∙ stacked_last es c.pop.new.self.items c.in-Some-pop.next End)),
      ),
    )
