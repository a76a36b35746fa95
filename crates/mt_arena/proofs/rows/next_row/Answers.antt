use Rattle.std.proofs.Common.{ap, arith, ◌∙◌, subst}
use Rattle.mt_arena.specs.Arena.{thing_end, value_in}
use Rattle.mt_arena.specs.Keeping.{HeldLists}
use Rattle.mt_arena.proofs.Rowing.{row_first, row_later, no_row_left}
use Rattle.mt_arena.proofs.rows.next_row.Goals as goal

pub returns-in-Row-clause-is : goal.returns-in-Row-clause-is
returns-in-Row-clause-is c =
    let i = c.loop-rows.invariant in
    i.1 ∙ row_first _ c.loop-rows.rows.start c.loop-rows.rows.end c.thing-thing.result.now c.in-Row.list c.loop-rows-test.true (omega (arith, i.0, c.requires)) c.thing-thing.ensures.is c.in-Row.is

pub returns-in-Row-clause-within : goal.returns-in-Row-clause-within
returns-in-Row-clause-within c = omega (arith, ap thing_end c.in-Row.is, c.thing-thing.ensures.before, c.loop-rows-test.true, c.loop-rows.invariant.0, c.requires)

pub returns-in-Row-clause-lists : goal.returns-in-Row-clause-lists
returns-in-Row-clause-lists c = subst (λ t. HeldLists (value_in c.args.arena.now.closed t)) c.in-Row.is c.thing-thing.ensures.lists

pub loop-rows-preserved : goal.loop-rows-preserved
loop-rows-preserved c =
    let i = c.loop-rows.invariant in
    (i.0, i.1 ∙ row_later _ c.loop-rows.rows.start c.loop-rows.rows.end c.thing-thing.result.now c.loop-rows-test.true (omega (arith, i.0, c.requires)) c.thing-thing.ensures.is c.in_default.not-Row)

pub returns-clause-is : goal.returns-clause-is
returns-clause-is c = c.loop-rows.invariant.1 ∙ no_row_left _ c.loop-rows.rows.start c.loop-rows.rows.end (omega (arith, c.loop-rows-test.false))

pub returns-clause-none : goal.returns-clause-none
returns-clause-none c = no_row_left _ c.loop-rows.rows.start c.loop-rows.rows.end (omega (arith, c.loop-rows-test.false))
