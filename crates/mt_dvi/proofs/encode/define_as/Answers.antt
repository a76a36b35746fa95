use Rattle.mt_dvi.proofs.Pieces.{define_joined, define_short}
use Rattle.mt_dvi.proofs.encode.define_as.Goals as goal

pub returns-clause-is : goal.returns-clause-is
returns-clause-is c = define_joined _ _ _ _ _ _ _ c.args.number c.args.checksum c.args.size c.args.design c.args.name.now c.in_ok-extend_from_slice.ensures.items c.in_ok-four_bytes.ensures c.in_ok-four_bytes-2.ensures c.in_ok-four_bytes-3.ensures c.in_ok-extend_from_slice-2.ensures.items c.in_ok-extend_from_slice-3.ensures.items

pub returns-clause-short : goal.returns-clause-short
returns-clause-short c = define_short _ _ c.args.number c.args.checksum c.args.size c.args.design c.args.name.now c.requires (define_joined _ _ _ _ _ _ _ c.args.number c.args.checksum c.args.size c.args.design c.args.name.now c.in_ok-extend_from_slice.ensures.items c.in_ok-four_bytes.ensures c.in_ok-four_bytes-2.ensures c.in_ok-four_bytes-3.ensures c.in_ok-extend_from_slice-2.ensures.items c.in_ok-extend_from_slice-3.ensures.items)
