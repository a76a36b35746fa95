use Rattle.std.proofs.Common.{◌≡◌, ap, sym, ◌∙◌, subst, map, reverse, length, arith}
use Rattle.mt_arena.specs.Arena.{value_in}
use Rattle.mt_arena.specs.Keeping.{AllLists}
use Rattle.mt_arena.specs.inner.Backward.{elements_of, AllWithin, first_start}
use Rattle.mt_arena.proofs.Growing.{length-elements, all_within_take, all_within_more, popped_within, map_front}
use Rattle.mt_arena.proofs.Opening.{pop_falls, pop_top, pop_lists}
use Rattle.mt_arena.proofs.arena.Arena.pop.Goals as goal

pub invariant_of-self : goal.invariant_of-self
invariant_of-self c =
    let i = c.self.invariant in
    let es = elements_of c.self.inside.things.items in
    let at = c.last_start.ensures ∙ ap (λ x. first_start (reverse x)) c.deref.ensures.value in
    record {
      things = i.things;
      pending = subst (λ x. AllWithin (length c.self.inside.things.items) x) (sym c.pop.ensures.rest) (all_within_take _ _ _ i.pending);
      starts = pop_falls c.self.inside.pending.items _ c.pop.result _ c.pop.ensures.items (omega (arith, c.len.ensures, at)) i.starts;
      closed_lists = i.closed_lists;
      pending_lists = subst (λ x. AllLists (map (value_in es) x)) (sym c.pop.ensures.rest) (map_front es _ _ i.pending_lists);
    }

pub returns-clause-is : goal.returns-clause-is
returns-clause-is c =
    let es = elements_of c.self.inside.things.items in
    let at = c.last_start.ensures ∙ ap (λ x. first_start (reverse x)) c.deref.ensures.value in
    let falls = pop_falls c.self.inside.pending.items _ c.pop.result _ c.pop.ensures.items (omega (arith, c.len.ensures, at)) c.self.invariant.starts in
    rw (← c.self.view_is) (pop_top es c.self.inside.pending.items _ c.pop.result _ c.pop.ensures.items falls)

pub returns-clause-within : goal.returns-clause-within
returns-clause-within c =
    let ts = c.self.inside.things.items in
    let n : length c.args.self.now.closed ≡ length ts = ap (λ v. length v.closed) (sym c.self.view_is) ∙ length-elements ts in
    popped_within _ _ _ _ c.pop.ensures.items (all_within_more (length ts) _ _ (omega (arith, n)) c.self.invariant.pending)

pub returns-clause-lists : goal.returns-clause-lists
returns-clause-lists c =
    rw (← c.self.view_is) (pop_lists (elements_of c.self.inside.things.items) c.self.inside.pending.items _ c.pop.result c.pop.ensures.items c.self.invariant.pending_lists)
