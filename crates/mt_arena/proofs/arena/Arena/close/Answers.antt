use Rattle.std.proofs.Common.{ap, sym, ◌∙◌, subst, length, take, drop, reverse, arith}
use Rattle.mt_arena.specs.Keeping.{AllLists}
use Rattle.mt_arena.specs.inner.Backward.{elements_of, AllBackward, AllWithin, first_start}
use Rattle.mt_arena.proofs.Growing.{length-elements, all_within_more, all_within_take, all_within_drop, backward_append, last_list, all_lists_append, all_lists_take}
use Rattle.mt_arena.proofs.Opening.{IsClosed, closing_length, closing_falls, closing_items, closing_closed, closing_top, closing_below, top_lists}
use Rattle.mt_arena.proofs.arena.Arena.close.Goals as goal

closed_as : (c : goal.After-drop_last) → IsClosed c.self.inside.things.items c.self.inside.pending.items c.move_items.new.things.items c.move_items.new.pending.items c.self.inside.starts.items c.drop_last.new.starts.items c.last_start-start.result
closed_as c = record {
  things = c.in_ok-move_items.ensures.things;
  pending = c.in_ok-move_items.ensures.pending;
  starts = c.drop_last.ensures;
  start = c.last_start-start.ensures ∙ ap (λ x. first_start (reverse x)) c.deref.ensures.value;
  within = c.self.invariant.pending;
  falls = c.self.invariant.starts;
}

pub invariant_of-self-2 : goal.invariant_of-self-2
invariant_of-self-2 c =
    let i = c.self.invariant in
    let ts = c.self.inside.things.items in
    let ps = c.self.inside.pending.items in
    let s = c.last_start-start.result in
    let m = closed_as c in
    record {
      things = subst (λ x. AllBackward 0 x) (sym m.things) (backward_append 0 (length ts) ts (drop s ps) (omega arith) i.things (all_within_drop (length ts) s ps i.pending));
      pending = subst (λ x. AllWithin (length c.move_items.new.things.items) x) (sym m.pending)
          (all_within_more (length ts) _ (take s ps) (omega (arith, closing_length _ _ _ _ _ _ _ m)) (all_within_take (length ts) s ps i.pending));
      starts = closing_falls _ _ _ _ _ _ _ m;
      closed_lists = subst AllLists (sym (closing_closed _ _ _ _ _ _ _ m)) (all_lists_append _ _ i.closed_lists (top_lists _ (reverse c.self.inside.starts.items) i.pending_lists));
      pending_lists = subst AllLists (sym (closing_items _ _ _ _ _ _ _ m)) (all_lists_take s _ i.pending_lists);
    }

pub returns-clause-closed : goal.returns-clause-closed
returns-clause-closed c = rw (← c.self.view_is) (closing_closed _ _ _ _ _ _ _ (closed_as c))

pub returns-clause-top : goal.returns-clause-top
returns-clause-top c = rw (← c.self.view_is) (closing_top _ _ _ _ _ _ _ (closed_as c))

pub returns-clause-below : goal.returns-clause-below
returns-clause-below c = rw (← c.self.view_is) (closing_below _ _ _ _ _ _ _ (closed_as c))

pub returns-clause-is : goal.returns-clause-is
returns-clause-is c =
    let m = closed_as c in
    let ts = c.self.inside.things.items in
    rw (← c.self.view_is) (last_list (elements_of ts) _ _ c.in_ok-span.span.start c.in_ok-span.span.end (closing_closed _ _ _ _ _ _ _ m)
    (omega (arith, c.in_ok-span.ensures.start, c.len-first.ensures, length-elements ts))
    (omega (arith, c.in_ok-span.ensures.end, c.len-first.ensures, c.len.ensures, closing_length _ _ _ _ _ _ _ m, length-elements c.move_items.new.things.items)))

pub returns-clause-within : goal.returns-clause-within
returns-clause-within c =
    omega (arith, c.in_ok-span.ensures.end, c.len-first.ensures, c.len.ensures, closing_length _ _ _ _ _ _ _ (closed_as c), length-elements c.move_items.new.things.items)

pub returns-clause-lists : goal.returns-clause-lists
returns-clause-lists c = rw (← c.self.view_is) (top_lists _ (reverse c.self.inside.starts.items) c.self.invariant.pending_lists)

pub returns-in_err-span-clause-lists : goal.returns-in_err-span-clause-lists
returns-in_err-span-clause-lists c = rw (← c.self.view_is) (top_lists _ (reverse c.self.inside.starts.items) c.self.invariant.pending_lists)

pub returns-in_err-move_items-clause-lists : goal.returns-in_err-move_items-clause-lists
returns-in_err-move_items-clause-lists c = rw (← c.self.view_is) (top_lists _ (reverse c.self.inside.starts.items) c.self.invariant.pending_lists)
