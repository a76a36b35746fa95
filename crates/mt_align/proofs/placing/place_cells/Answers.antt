use Rattle.std.proofs.Common.{◌∙◌, ap, arith}
use Rattle.mt_box.specs.marks.Layers.{joined, moved_layer}
use Rattle.mt_box.specs.declared.marks.moves.Move.{Move}
use Rattle.mt_align.proofs.Joining.{edge_near, joining_item}
use Rattle.mt_align.proofs.placing.place_cells.Goals as goal

pub edge_before-edge-requires-clause-edge : goal.edge_before-edge-requires-clause-edge
edge_before-edge-requires-clause-edge c =
    edge_near c.args.shape.now.look c.args.shape.now.gap.sp c.args.up.sp c.args.shape.now.widths.items c.args.cells.now c.loop-column.column c.loop-column.edge.sp _ c.loop-column.marks c.loop-column.invariant c.requires.few c.requires.fits c.args.shape.now.widths_small c.args.shape.now.gap_small

pub loop-column-preserved : goal.loop-column-preserved
loop-column-preserved c =
    joining_item c.args.shape.now.look c.args.shape.now.gap.sp c.args.up.sp c.args.shape.now.widths.items c.args.cells.now c.loop-column.column c.index.result.now _ c.loop-column.edge.sp c.edge_before-edge.result.sp c.inset-inset.result.sp c.plus.result.sp _ c.loop-column.marks _
    c.loop-column.invariant (omega (arith, c.loop-column-test.true)) c.requires.fits c.args.shape.now.widths_small c.index.ensures c.edge_before-edge.ensures.is (rw c.as_slice-cells.ensures at c.inset-inset.ensures.is) c.plus.ensures
    (c.join.ensures ∙ ap joined (c.in_ok-shift.ensures ∙ ap (λ (m : Move). moved_layer 1 m.right m.up c.loop-column.marks) c.right_and_up.ensures))
