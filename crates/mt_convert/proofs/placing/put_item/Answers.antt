use Rattle.mt_convert.proofs.PutRows.{atom_put}
use Rattle.mt_convert.proofs.placing.put_item.Goals as goal

pub returns-in_ok-put_row-in-Set : goal.returns-in_ok-put_row-in-Set
returns-in_ok-put_row-in-Set c = rw c.in-Set.is (atom_put c.in-Set.class c.len-count.result c.in-Set.row c.args.pieces.now c.put_row.new.self c.len-count.ensures c.in_ok-put_row-in-Set.ensures)
