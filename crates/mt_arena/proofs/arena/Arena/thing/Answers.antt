use Rattle.std.proofs.Common.{◌≡◌, ◌≤◌, ◌+◌, subst, ap, sym, ◌∙◌, length, arith}
use Rattle.mt_arena.proofs.Growing.{length-elements, backward_at, element_at_index, lists_at}
use Rattle.mt_arena.specs.Arena.{thing_end}
use Rattle.mt_arena.proofs.arena.Arena.thing.Goals as goal

pub index-requires : goal.index-requires
index-requires c =
    let n : length c.args.self.now.closed ≡ length c.self.inside.things.items = ap (λ v. length v.closed) (sym c.self.view_is) ∙ length-elements c.self.inside.things.items in
    omega (arith, n, c.requires)

pub returns-clause-is : goal.returns-clause-is
returns-clause-is c =
    let ts = c.self.inside.things.items in
    let n : length c.args.self.now.closed ≡ length ts = ap (λ v. length v.closed) (sym c.self.view_is) ∙ length-elements ts in
    let h = element_at_index c.args.at ts c.index.result.now (omega (arith, n, c.requires)) c.self.invariant.things in
    rw (← c.self.view_is, c.index.ensures) h

pub returns-clause-before : goal.returns-clause-before
returns-clause-before c =
    let ts = c.self.inside.things.items in
    let n : length c.args.self.now.closed ≡ length ts = ap (λ v. length v.closed) (sym c.self.view_is) ∙ length-elements ts in
    let h = backward_at 0 c.args.at ts c.index.result.now (omega (arith, n, c.requires)) c.self.invariant.things in
    omega (arith, subst (λ t. thing_end t ≤ 0 + c.args.at) (sym c.index.ensures) h)

pub returns-clause-lists : goal.returns-clause-lists
returns-clause-lists c =
    let ts = c.self.inside.things.items in
    let n : length c.args.self.now.closed ≡ length ts = ap (λ v. length v.closed) (sym c.self.view_is) ∙ length-elements ts in
    let h = element_at_index c.args.at ts c.index.result.now (omega (arith, n, c.requires)) c.self.invariant.things in
    rw (← c.self.view_is, c.index.ensures) (lists_at _ c.args.at _ h c.self.invariant.closed_lists)
