use Rattle.std.proofs.Common.{pos, drop}
use Rattle.mt_family.specs.declared.size.Size.TheVariants.{Text}
use Rattle.mt_convert.specs.inner.Placed.{placed_values}
use Rattle.mt_convert.proofs.SecondPass.{always, row_few, row_tested}
use Rattle.mt_convert.proofs.second.join.join_runs.Goals as goal

pub tested-requires : goal.tested-requires
tested-requires c = record {
  few = row_few c.args.fonts.now Text (pos 0) c.args.style c.args.items.now c.args.first c.args.pieces.now c.space_out.new.pieces c.requires.first c.requires.placed (c.in_ok-space_out.ensures Text (pos 0));
}

pub returns-clause-is : goal.returns-clause-is
returns-clause-is c = λ size wanted.
    row_tested c.tested.result c.args.fonts.now size wanted c.args.style (placed_values c.args.items.now (drop c.args.first c.args.pieces.now)) c.args.first c.args.pieces.now c.space_out.new.pieces c.requires.first (c.in_ok-space_out.ensures size wanted) c.tested.ensures.is

pub returns-clause-few : goal.returns-clause-few
returns-clause-few c =
    always c.tested.result _
    (row_few c.args.fonts.now Text (pos 0) c.args.style c.args.items.now c.args.first c.args.pieces.now c.space_out.new.pieces c.requires.first c.requires.placed (c.in_ok-space_out.ensures Text (pos 0)))
