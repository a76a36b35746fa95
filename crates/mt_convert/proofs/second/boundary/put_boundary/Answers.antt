use Rattle.mt_convert.proofs.Common.{delimiter, space_before}
use Rattle.mt_convert.proofs.Boundaries.{boundary_put}
use Rattle.mt_convert.proofs.second.boundary.put_boundary.Goals as goal

pub returns : goal.returns
returns c =
    boundary_put c.args.fonts.now c.args.frame.size c.args.pieces.now (space_before c.args.fonts.now c.args.current c.args.class) c.put_space.new.pieces c.put_boundary.new.self (delimiter c.args.fonts.now c.args.delim c.args.frame.size c.args.frame.wanted.sp)
    c.in_ok-put_space.ensures c.in_ok-put_boundary.ensures
