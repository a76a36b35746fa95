use Rattle.mt_pieces.proofs.Settled.{top_known}
use Rattle.mt_pieces.proofs.packing.set_layers.Goals as goal

pub returns-clause-rest : goal.returns-clause-rest
returns-clause-rest c = λ ms ls rest are shrinks e. top_known c.tested_extents.result c.pack_parts_to.new.marks _ rest (c.in_ok-extents.ensures.marks ms ls rest are shrinks e)
