use Rattle.std.proofs.Common.{◌++◌, sym, subst, ◌≡◌, reverse}
use Rattle.mt_arena.specs.Arena.{first_open}
use Rattle.mt_arena.specs.inner.Backward.{below_in, items_in, top_in}
use Rattle.mt_arena.proofs.Opening.{joined_here}
use Rattle.mt_arena.proofs.arena.Arena.join.Goals as goal

pub returns-clause-top : goal.returns-clause-top
returns-clause-top c =
    let hs = items_in c.self.inside in
    rw (← c.self.view_is) (subst (λ ss. top_in hs ss ≡ first_open (below_in hs (reverse c.self.inside.starts.items)) ++ top_in hs (reverse c.self.inside.starts.items)) (sym c.drop_last.ensures)
    (joined_here _ c.self.inside.pending.items (reverse c.self.inside.starts.items) c.self.invariant.starts))
