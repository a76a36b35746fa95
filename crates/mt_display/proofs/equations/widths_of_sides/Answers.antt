use Rattle.mt_display.proofs.Common.{next_item}
use Rattle.mt_display.proofs.EquationSides.{widened_step}
use Rattle.mt_display.proofs.equations.widths_of_sides.Goals as goal

pub loop-row-preserved : goal.loop-row-preserved
loop-row-preserved c =
    widened_step c.args.rows.now _ _ c.row-item.result c.loop-row.widths c.with_sides.result c.loop-row.invariant
    (next_item c.as_slice-row-items.result.now c.loop-row.row-index c.row-item.result c.loop-row-test.true c.row-item.is)
    c.with_sides.ensures.is c.with_sides.ensures.small
