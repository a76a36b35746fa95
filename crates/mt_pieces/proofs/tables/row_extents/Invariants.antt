use Rattle.std.proofs.Common.{drop}
use Rattle.mt_pieces.proofs.Celling.{CellsLeft}
use Rattle.mt_pieces.proofs.tables.row_extents.Given as goal

abbrev pub invariant-loop-part : goal.invariant-loop-part
invariant-loop-part l = CellsLeft l.parts (drop l.part-index l.parts) l.extents.items
