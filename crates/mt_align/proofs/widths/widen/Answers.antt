use Rattle.std.proofs.Common.{◌+◌, ap}
use Rattle.std.proofs.lemmas.List.{drop_more}
use Rattle.mt_align.proofs.ColumnWidths.{widening_more}
use Rattle.mt_align.proofs.widths.widen.Goals as goal

pub loop-cell-preserved : goal.loop-cell-preserved
loop-cell-preserved c = (
  widening_more c.args.widths.now.items c.args.cells.now _ _ _ c.loop-cell.column c.loop-cell.widths.items c.widen_column.new.widths.items
      c.loop-cell.invariant.0 (drop_more _ _ _ c.loop-cell-test.true) c.in_ok-widen_column.ensures.is c.in_ok-widen_column.ensures.small,
  ap (λ n. n + 1) c.loop-cell.invariant.1,
)
