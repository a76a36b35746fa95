use Rattle.std.proofs.Common.{◌+◌, sym, ◌∙◌, arith}
use Rattle.mt_arena.specs.Arena.{sequence_in, value_in}
use Rattle.mt_arena.proofs.Leaving.{range_more, none_more}
use Rattle.mt_arena.proofs.rest.next_of.Goals as goal

pub returns-then-is_item-clause-is : goal.returns-then-is_item-clause-is
returns-then-is_item-clause-is c =
    let es = c.args.arena.now.closed in
    let i = c.loop-at.invariant in
    i.1 ∙ range_more es c.loop-at.at.start c.loop-at.at.end (value_in es c.thing-thing.result.now) c.loop-at-test.true (omega (arith, i.0, c.requires)) c.thing-thing.ensures.is

pub loop-at-preserved : goal.loop-at-preserved
loop-at-preserved c =
    let es = c.args.arena.now.closed in
    let i = c.loop-at.invariant in
    let t = c.thing-thing.result.now in
    let rest = sequence_in es (record { start = c.loop-at.at.start + 1; end = c.loop-at.at.end }) in (
      i.0,
      i.1 ∙ (range_more es c.loop-at.at.start c.loop-at.at.end (value_in es t) c.loop-at-test.true (omega (arith, i.0, c.requires)) c.thing-thing.ensures.is
          ∙ none_more es t rest (sym c.is_item.ensures ∙ c.if-is_item.false)),
    )
