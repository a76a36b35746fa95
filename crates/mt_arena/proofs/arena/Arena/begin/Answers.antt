use Rattle.std.proofs.Common.{length, map, arith}
use Rattle.std.proofs.lemmas.List.{length-map}
use Rattle.mt_arena.specs.Arena.{value_in}
use Rattle.mt_arena.specs.inner.Backward.{elements_of}
use Rattle.mt_arena.proofs.Opening.{opened_top, opened_below, opened_falls}
use Rattle.mt_arena.proofs.arena.Arena.begin.Goals as goal

pub invariant_of-self-2 : goal.invariant_of-self-2
invariant_of-self-2 c =
    let i = c.self.invariant in
    record {
      things = i.things;
      pending = i.pending;
      starts = opened_falls (length c.self.inside.pending.items) _ _ _ c.in_ok-push.ensures.items (omega (arith, c.len.ensures)) i.starts;
      closed_lists = i.closed_lists;
      pending_lists = i.pending_lists;
    }

pub returns-clause-top : goal.returns-clause-top
returns-clause-top c =
    let hs = map (value_in (elements_of c.self.inside.things.items)) c.self.inside.pending.items in
    opened_top hs _ _ _ c.in_ok-push.ensures.items (omega (arith, c.len.ensures, length-map c.self.inside.pending.items (value_in (elements_of c.self.inside.things.items))))

pub returns-clause-below : goal.returns-clause-below
returns-clause-below c =
    let hs = map (value_in (elements_of c.self.inside.things.items)) c.self.inside.pending.items in
    rw (← c.self.view_is) (opened_below hs _ _ _ c.in_ok-push.ensures.items (omega (arith, c.len.ensures, length-map c.self.inside.pending.items (value_in (elements_of c.self.inside.things.items)))))
