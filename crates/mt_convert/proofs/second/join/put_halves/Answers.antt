use Rattle.mt_convert.proofs.Common.{drop_more}
use Rattle.mt_convert.proofs.SecondPass.{put_start, put_step, next_put}
use Rattle.mt_convert.proofs.second.join.put_halves.Goals as goal

pub loop-item-init : goal.loop-item-init
loop-item-init c =
    put_start c.args.fonts.now c.args.frame.size c.args.frame.wanted.sp c.args.style c.args.items.now c.args.first c.args.pieces.now c.opening-current.result c.place_of-from.result
    c.requires.first c.requires.placed c.opening-current.ensures c.place_of-from.ensures.at c.place_of-from.ensures.piece

pub loop-item-preserved : goal.loop-item-preserved
loop-item-preserved c =
    let i = c.loop-item.invariant in
    let e = drop_more c.args.items.now c.loop-item.item-index _ c.loop-item-test.true in
    put_step _ _ _ _ _ _ c.args.pieces.now c.loop-item.current _ _ c.loop-item.from c.in_ok-from.from c.loop-item.pieces c.put_half.new.pieces _ _ i e
    (c.in_ok-from.ensures.is c.args.pieces.now i.done i.stays (next_put _ _ _ _ _ _ _ _ _ _ _ _ _ i e).room)
    c.in_ok-from.ensures.after c.in_ok-from.ensures.piece (c.after_half-current.ensures _)
