use Rattle.std.proofs.Common.{arith}
use Rattle.mt_align.proofs.ColumnWidths.{reaching_item}
use Rattle.mt_align.proofs.widths.columns_reach.Goals as goal

pub loop-i-preserved : goal.loop-i-preserved
loop-i-preserved c =
    reaching_item c.args.gap.sp c.args.widths.now c.loop-i.i _ c.loop-i.end.sp c.plus-end.result.sp c.loop-i.invariant (omega (arith, c.loop-i-test.true)) c.requires.few c.requires.widths c.requires.gap (rw c.plus.ensures at c.plus-end.ensures)
