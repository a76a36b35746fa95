use Rattle.std.proofs.Common.{to_z-of_z}
use Rattle.mt_dvi.proofs.Pieces.{pre_joined}
use Rattle.mt_dvi.proofs.encode.pre.Goals as goal

pub returns : goal.returns
returns c = pre_joined _ _ _ _ c.args.mag c.in_ok-extend_from_slice.ensures.items (rw (to_z-of_z c.ranges.mag) at c.in_ok-scale.ensures) c.in_ok-push.ensures.items
