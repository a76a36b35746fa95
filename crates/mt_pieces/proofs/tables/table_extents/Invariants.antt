use Rattle.std.proofs.Common.{drop}
use Rattle.mt_pieces.proofs.Celling.{RowsLeft}
use Rattle.mt_pieces.proofs.tables.table_extents.Given as goal

abbrev pub invariant-loop-count : goal.invariant-loop-count
invariant-loop-count l = RowsLeft l.parts l.rest l.rows (drop l.count-index l.rows) l.extents.items
