use Rattle.std.proofs.Common.{sym}
use Rattle.std.proofs.lemmas.List.Elements.{All-get_or}
use Rattle.std.proofs.lemmas.List.{drop_more}
use Rattle.mt_box.specs.Extents.{ExtentsInRange}
use Rattle.mt_align.proofs.Rows.{lining_more}
use Rattle.mt_align.proofs.lines.line_of.Goals as goal

pub loop-cell-preserved : goal.loop-cell-preserved
loop-cell-preserved c =
    lining_more c.args.look c.args.cells.now _ _ _ c.loop-cell.line.height.sp c.loop-cell.line.depth.sp _ _ c.loop-cell.invariant (drop_more _ _ _ c.loop-cell-test.true) (All-get_or ExtentsInRange _ _ _ c.loop-cell-test.true (rw (sym c.as_slice-cell-items.ensures) at c.requires)) c.with-line.ensures.height c.with-line.ensures.depth
