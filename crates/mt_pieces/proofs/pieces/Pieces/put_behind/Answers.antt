use Rattle.mt_pieces.proofs.PutBehind.{moved_behind}
use Rattle.mt_pieces.proofs.pieces.Pieces.put_behind.Goals as goal

pub returns-clause-pieces : goal.returns-clause-pieces
returns-clause-pieces c before moved after is first count =
    moved_behind before moved after c.args.self.now _ _ c.args.first c.args.count _ is first count c.place_of-at.ensures.piece c.in_ok-copy_run.ensures.pieces c.remove.ensures
