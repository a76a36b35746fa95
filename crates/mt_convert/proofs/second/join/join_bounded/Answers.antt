use Rattle.std.proofs.Common.{subst, take, drop}
use Rattle.mt_convert.proofs.Common.{SetsRowOn}
use Rattle.mt_convert.specs.inner.Placed.{placed_values}
use Rattle.mt_convert.proofs.SecondPass.{second_is}
use Rattle.mt_convert.proofs.second.join.join_bounded.Goals as goal

pub returns-clause-is : goal.returns-clause-is
returns-clause-is c =
    subst (SetsRowOn c.join_rows.result (take c.args.first c.args.pieces.now) c.join_rows.new.pieces)
    (second_is c.args.fonts.now c.args.style _ _ _ _ (placed_values c.args.items.now (drop c.args.first c.args.pieces.now)) c.boundary_frame-frame.ensures.size c.boundary_frame-frame.ensures.wanted)
    c.join_rows.ensures.is
