use Rattle.mt_convert.proofs.SecondPass.{always, row_few}
use Rattle.mt_convert.proofs.second.join.join_rows.Goals as goal

pub tested-requires : goal.tested-requires
tested-requires c = record {
  few = row_few c.args.fonts.now c.args.frame.size c.args.frame.wanted.sp c.args.style c.args.items.now c.args.first c.args.pieces.now c.join_pieces.new.pieces c.requires.first c.requires.placed c.in_ok-join_pieces.ensures;
}

pub returns-clause-few : goal.returns-clause-few
returns-clause-few c =
    always c.tested.result _
    (row_few c.args.fonts.now c.args.frame.size c.args.frame.wanted.sp c.args.style c.args.items.now c.args.first c.args.pieces.now c.join_pieces.new.pieces c.requires.first c.requires.placed c.in_ok-join_pieces.ensures)
