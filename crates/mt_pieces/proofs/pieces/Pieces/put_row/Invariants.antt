use Rattle.std.specs.Vec.Iter.{into_iter_items}
use Rattle.mt_pieces.proofs.RowPut.{RowPut}
use Rattle.mt_pieces.proofs.pieces.Pieces.put_row.Given as goal

abbrev pub invariant-loop-piece : goal.invariant-loop-piece
invariant-loop-piece l =
    (goal.iterator-loop-piece).can_next l.piece-iterator
    × (goal.iterator-loop-piece).is_finite l.piece-iterator
    × RowPut l.fn.self l.fn.row (into_iter_items l.piece-iterator) l.self
