use Rattle.std.specs.Vec.Iter.{into_iter_items}
use Rattle.mt_convert.proofs.PutRows.{ItemsPut}
use Rattle.mt_convert.proofs.placing.put_items.Given as goal

abbrev pub invariant-loop-item : goal.invariant-loop-item
invariant-loop-item l =
    (goal.iterator-loop-item).can_next l.item-iterator
    × (goal.iterator-loop-item).is_finite l.item-iterator
    × ItemsPut l.fn.items (into_iter_items l.item-iterator) l.placed.items l.fn.pieces l.pieces
