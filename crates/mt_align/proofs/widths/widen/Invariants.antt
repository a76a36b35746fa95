use Rattle.std.proofs.Common.{◌≡◌, drop}
use Rattle.mt_align.proofs.ColumnWidths.{Widening}
use Rattle.mt_align.proofs.widths.widen.Given as goal

abbrev pub invariant-loop-cell : goal.invariant-loop-cell
invariant-loop-cell l =
    Widening l.fn.widths.items l.fn.cells (drop l.cell-index l.cell-items) l.column l.widths.items × (l.column ≡ l.cell-index)
