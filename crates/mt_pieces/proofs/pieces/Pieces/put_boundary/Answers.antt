use Rattle.mt_rules.specs.Delimiters.{delimiter}
use Rattle.mt_pieces.proofs.Boundaries.{boundary_fails, boundary_set}
use Rattle.mt_pieces.proofs.pieces.Pieces.put_boundary.Goals as goal

pub returns-in-Ok : goal.returns-in-Ok
returns-in-Ok c = boundary_set c.args.fonts.now c.args.size c.args.self.now c.put_delimiter.new.self c.raise_onto_axis.new.self (delimiter c.args.fonts.now c.args.d c.args.size c.args.wanted.sp) c.in-Ok.ensures c.raise_onto_axis.ensures

pub returns-in-Err : goal.returns-in-Err
returns-in-Err c = boundary_fails c.args.fonts.now c.args.size c.args.self.now c.put_delimiter.new.self _ (delimiter c.args.fonts.now c.args.d c.args.size c.args.wanted.sp) c.in-Err.fault c.in-Err.ensures
