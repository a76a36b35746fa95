use Rattle.std.proofs.Common.{◌≡◌, ap, sym, ◌∙◌, subst, map, length, arith}
use Rattle.mt_arena.specs.Arena.{value_in}
use Rattle.mt_arena.specs.Keeping.{AllLists, HeldLists}
use Rattle.mt_arena.specs.inner.Backward.{elements_of}
use Rattle.mt_arena.proofs.Growing.{length-elements, all_within_append, all_lists_append, map_push}
use Rattle.mt_arena.proofs.Opening.{push_falls, push_top, push_below}
use Rattle.mt_arena.proofs.arena.Arena.push.Goals as goal

pub invariant_of-self-2 : goal.invariant_of-self-2
invariant_of-self-2 c =
    let ts = c.self.inside.things.items in
    let ps = c.self.inside.pending.items in
    let es = elements_of ts in
    let i = c.self.invariant in
    let n : length c.args.self.now.closed ≡ length ts = ap (λ v. length v.closed) (sym c.self.view_is) ∙ length-elements ts in
    let l : HeldLists (value_in es c.args.thing) = subst (λ v. HeldLists (value_in v.closed c.args.thing)) (sym c.self.view_is) c.requires.lists in
    record {
      things = i.things;
      pending = rw c.in_ok-push.ensures.items (all_within_append (length ts) ps _ i.pending (omega (arith, n, c.requires.within), tt));
      starts = push_falls ps _ c.args.thing _ c.in_ok-push.ensures.items i.starts;
      closed_lists = i.closed_lists;
      pending_lists = subst (λ x. AllLists x) (sym (ap (λ x. map (value_in es) x) c.in_ok-push.ensures.items ∙ map_push es ps c.args.thing)) (all_lists_append _ _ i.pending_lists (l, tt));
    }

pub returns-clause-is : goal.returns-clause-is
returns-clause-is c =
    rw (← c.self.view_is) (push_top (elements_of c.self.inside.things.items) c.self.inside.pending.items _ c.args.thing _ c.in_ok-push.ensures.items c.self.invariant.starts)

pub returns-clause-below : goal.returns-clause-below
returns-clause-below c =
    rw (← c.self.view_is) (push_below (elements_of c.self.inside.things.items) c.self.inside.pending.items _ c.args.thing _ c.in_ok-push.ensures.items c.self.invariant.starts)
