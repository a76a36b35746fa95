use Rattle.std.proofs.Common.{[], get_or, length, arith}
use Rattle.mt_dviops.specs.Source.{empty_source}
use Rattle.mt_dviops.specs.inner.Chosen.{page_or_empty}
use Rattle.mt_dviops.proofs.Picking.{has_number, in_range}
use Rattle.mt_dviops.proofs.Selecting.{none_picked, picked_next, picked_whole}
use Rattle.mt_dviops.proofs.select.numbered.Goals as goal

pub loop-number-init : goal.loop-number-init
loop-number-init c = λ fonts file holds. none_picked fonts _ c.in_ok-chosen.ensures.items

pub overflow_sub-number : goal.overflow_sub-number
overflow_sub-number c = (has_number (length c.args.source.now.pages.items) (get_or c.args.numbers.now c.loop-number.number-index 0) (in_range (length c.args.source.now.pages.items) c.args.numbers.now c.loop-number.number-index c.requires c.loop-number-test.true)).low

pub page-requires : goal.page-requires
page-requires c =
    let n = has_number (length c.args.source.now.pages.items) (get_or c.args.numbers.now c.loop-number.number-index 0) (in_range (length c.args.source.now.pages.items) c.args.numbers.now c.loop-number.number-index c.requires c.loop-number-test.true) in
    let low = n.low in
    let high = n.high in
    omega (arith, low, high)

pub loop-number-preserved : goal.loop-number-preserved
loop-number-preserved c = λ fonts file holds.
    picked_next fonts (page_or_empty file.pages) _ _ c.args.numbers.now c.loop-number.number-index _ c.loop-number-test.true (c.loop-number.invariant fonts file holds) (c.page.ensures fonts file (empty_source []) holds) c.in_ok-push.ensures.items

pub returns : goal.returns
returns c = λ fonts file holds. picked_whole fonts (page_or_empty file.pages) _ c.args.numbers.now c.loop-number.number-index c.loop-number-test.false (c.loop-number.invariant fonts file holds)
