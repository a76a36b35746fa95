use Rattle.std.proofs.Common.{to_z-of_z}
use Rattle.mt_dviops.specs.inner.Shown.{pointer_of}
use Rattle.mt_dviops.proofs.Pieces.{post_joined}
use Rattle.mt_dviops.proofs.write.write_post.Goals as goal

pub returns : goal.returns
returns c = post_joined _ _ _ _ _ _ _ _ c.args.mag (pointer_of c.args.last) _ _ _ _ c.in_ok-push.ensures.items c.in_ok-push_pointer.ensures (rw (to_z-of_z c.ranges.mag) at c.in_ok-scale.ensures) c.in_ok-four_bytes.ensures c.in_ok-four_bytes-2.ensures c.in_ok-two_bytes.ensures c.in_ok-two_bytes-2.ensures
