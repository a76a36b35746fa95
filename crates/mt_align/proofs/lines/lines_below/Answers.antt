use Rattle.std.proofs.Common.{refl}
use Rattle.mt_box.proofs.Lists.{next_item}
use Rattle.mt_align.proofs.Rows.{down_more}
use Rattle.mt_align.proofs.lines.lines_below.Goals as goal

pub loop-cells-preserved : goal.loop-cells-preserved
loop-cells-preserved c =
    down_more c.args.look _ _ c.args.rows.now _ _ c.cells-item.result c.loop-cells.drops.items c.push.new.self.items c.loop-cells.so_far.total.sp c.plus-drop.result.sp c.gap_before-gap.result.sp c.line_of-line.result.height.sp c.line_of-line.result.depth.sp c.loop-cells.so_far.depth
    c.loop-cells.invariant (next_item _ _ _ c.loop-cells-test.true c.cells-item.is) c.line_of-line.ensures.height c.line_of-line.ensures.depth c.gap_before-gap.ensures.is (rw c.plus.ensures at c.plus-drop.ensures) c.in_ok-push.ensures.items
    c.gap_before-gap.ensures.small c.line_of-line.ensures.high c.line_of-line.ensures.deep
    _ c.line_of-line.result.depth c.plus-in-loop-cells.ensures refl
