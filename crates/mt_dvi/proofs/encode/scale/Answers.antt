use Rattle.std.proofs.Common.{to_z-of_z}
use Rattle.mt_dvi.proofs.Pieces.{scale_joined}
use Rattle.mt_dvi.proofs.encode.scale.Goals as goal

pub returns : goal.returns
returns c = scale_joined _ _ _ _ c.args.mag c.in_ok-four_bytes.ensures c.in_ok-four_bytes-2.ensures (rw (to_z-of_z c.ranges.mag) at c.in_ok-signed.ensures)
