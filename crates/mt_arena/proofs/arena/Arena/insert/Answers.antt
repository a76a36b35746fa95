use Rattle.std.proofs.Common.{◌≡◌, ◌≤◌, ◌∷◌, [], sym, ap, ◌∙◌, subst, length, reverse, arith, length-append}
use Rattle.mt_arena.proofs.Growing.{length-elements, all_within_more, backward_append, inserted, inserted_pending, all_lists_append}
use Rattle.mt_arena.specs.Arena.{value_in, thing_end}
use Rattle.mt_arena.specs.Keeping.{AllLists, HeldLists}
use Rattle.mt_arena.specs.inner.Backward.{elements_of, AllBackward, top_in, below_in}
use Rattle.mt_arena.proofs.arena.Arena.insert.Goals as goal

pub invariant_of-self-2 : goal.invariant_of-self-2
invariant_of-self-2 c =
    let e = c.in_ok-push.ensures.items in
    let i = c.self.invariant in
    let ts = c.self.inside.things.items in
    let es = elements_of ts in
    let n : length c.args.self.now.closed ≡ length ts = ap (λ v. length v.closed) (sym c.self.view_is) ∙ length-elements ts in
    let w : thing_end c.args.thing ≤ length ts = omega (arith, n, c.requires.within) in
    let l : HeldLists (value_in es c.args.thing) = subst (λ v. HeldLists (value_in v.closed c.args.thing)) (sym c.self.view_is) c.requires.lists in
    record {
      things = subst (λ x. AllBackward 0 x) (sym e) (backward_append 0 (length ts) ts (c.args.thing ∷ []) (omega arith) i.things (w, tt));
      pending = all_within_more (length ts) _ c.self.inside.pending.items (omega (arith, length-append ts (c.args.thing ∷ []), ap length e)) i.pending;
      starts = i.starts;
      closed_lists = subst AllLists (sym (inserted ts _ c.args.thing e w)) (all_lists_append es (value_in es c.args.thing ∷ []) i.closed_lists (l, tt));
      pending_lists = subst AllLists (sym (inserted_pending ts _ _ c.args.thing e w i.pending)) i.pending_lists;
    }

pub returns-clause-closed : goal.returns-clause-closed
returns-clause-closed c =
    let ts = c.self.inside.things.items in
    let n : length c.args.self.now.closed ≡ length ts = ap (λ v. length v.closed) (sym c.self.view_is) ∙ length-elements ts in
    rw (← c.self.view_is) (inserted ts _ c.args.thing c.in_ok-push.ensures.items (omega (arith, n, c.requires.within)))

pub returns-clause-top : goal.returns-clause-top
returns-clause-top c =
    let ts = c.self.inside.things.items in
    let n : length c.args.self.now.closed ≡ length ts = ap (λ v. length v.closed) (sym c.self.view_is) ∙ length-elements ts in
    rw (← c.self.view_is) (ap (λ x. top_in x (reverse c.self.inside.starts.items)) (inserted_pending ts _ _ c.args.thing c.in_ok-push.ensures.items (omega (arith, n, c.requires.within)) c.self.invariant.pending))

pub returns-clause-below : goal.returns-clause-below
returns-clause-below c =
    let ts = c.self.inside.things.items in
    let n : length c.args.self.now.closed ≡ length ts = ap (λ v. length v.closed) (sym c.self.view_is) ∙ length-elements ts in
    rw (← c.self.view_is) (ap (λ x. below_in x (reverse c.self.inside.starts.items)) (inserted_pending ts _ _ c.args.thing c.in_ok-push.ensures.items (omega (arith, n, c.requires.within)) c.self.invariant.pending))

pub returns-clause-is : goal.returns-clause-is
returns-clause-is c =
    let ts = c.self.inside.things.items in
    let n : length c.args.self.now.closed ≡ length ts = ap (λ v. length v.closed) (sym c.self.view_is) ∙ length-elements ts in
    omega (arith, n, c.len.ensures, c.in-Ok.ensures)
