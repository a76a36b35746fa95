use Rattle.mt_box.proofs.Lists.{next_item}
use Rattle.mt_box.proofs.Packing.{gathering_start, gathering_step}
use Rattle.mt_box.proofs.rows.gather.Goals as goal

pub loop-piece-init : goal.loop-piece-init
loop-piece-init c = gathering_start _ _ _ _ c.as_slice-piece-items.ensures c.in_ok-parts.ensures.items c.requires

pub loop-piece-preserved : goal.loop-piece-preserved
loop-piece-preserved c =
    gathering_step _ _ _ _ _ _ c.part_of.result _ _ _ c.loop-piece.invariant (next_item _ _ _ c.loop-piece-test.true c.piece-item.is) c.part_of.ensures.is c.part_of.ensures.near c.in_ok-push.ensures.items c.in_ok-push_piece.ensures
