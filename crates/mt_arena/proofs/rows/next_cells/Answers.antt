use Rattle.std.proofs.Common.{ap, arith, ◌∙◌}
use Rattle.mt_arena.specs.Arena.{thing_end}
use Rattle.mt_arena.proofs.Rowing.{cells_first, cells_later, no_cells_left}
use Rattle.mt_arena.proofs.rows.next_cells.Goals as goal

pub returns-in-Cells-clause-is : goal.returns-in-Cells-clause-is
returns-in-Cells-clause-is c =
    let i = c.loop-rows.invariant in
    i.1 ∙ cells_first _ c.loop-rows.rows.start c.loop-rows.rows.end c.thing-thing.result.now c.in-Cells.cells c.loop-rows-test.true (omega (arith, i.0, c.requires)) c.thing-thing.ensures.is c.in-Cells.is

pub returns-in-Cells-clause-within : goal.returns-in-Cells-clause-within
returns-in-Cells-clause-within c = omega (arith, ap thing_end c.in-Cells.is, c.thing-thing.ensures.before, c.loop-rows-test.true, c.loop-rows.invariant.0, c.requires)

pub loop-rows-preserved : goal.loop-rows-preserved
loop-rows-preserved c =
    let i = c.loop-rows.invariant in
    (i.0, i.1 ∙ cells_later _ c.loop-rows.rows.start c.loop-rows.rows.end c.thing-thing.result.now c.loop-rows-test.true (omega (arith, i.0, c.requires)) c.thing-thing.ensures.is c.in_default.not-Cells)

pub returns-clause-is : goal.returns-clause-is
returns-clause-is c = c.loop-rows.invariant.1 ∙ no_cells_left _ c.loop-rows.rows.start c.loop-rows.rows.end (omega (arith, c.loop-rows-test.false))
