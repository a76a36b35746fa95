use Rattle.std.proofs.Common.{refl, subst, take, drop}
use Rattle.mt_convert.proofs.Common.{boundary_size, row_depth, row_height, size_of, SetsRowOn}
use Rattle.mt_convert.specs.inner.Placed.{placed_values}
use Rattle.mt_convert.proofs.SecondPass.{second_is}
use Rattle.mt_convert.proofs.second.join.join_placed.Goals as goal

pub returns-then-not-has_boundary-clause-is : goal.returns-then-not-has_boundary-clause-is
returns-then-not-has_boundary-clause-is c =
    let row = drop c.args.first c.args.pieces.now in
    let size = size_of c.args.style in
    let wanted = boundary_size c.args.fonts.now size (row_height row) (row_depth row) in
    subst (SetsRowOn c.join_runs.result (take c.args.first c.args.pieces.now) c.join_runs.new.pieces)
    (second_is c.args.fonts.now c.args.style size wanted _ _ (placed_values c.args.items.now row) refl refl)
    (c.join_runs.ensures.is size wanted)
