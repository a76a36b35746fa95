use Rattle.std.proofs.Common.{◌∙◌, ap, refl, sym, ◌-ℤ◌, ◌-◌}
use Rattle.mt_box.specs.SetRows.{shrunk}
use Rattle.mt_box.specs.marks.Layers.{joined}
use Rattle.mt_box.proofs.layers.RowSums.{PartsEdge, edge_wide, edge_soft, edge_near, edge_back, gap_kept, piece_joined, join_step}
use Rattle.mt_box.proofs.marks.row.join_parts.Goals as goal

pub before-edge-requires : goal.before-edge-requires
before-edge-requires c =
    let e = c.loop-i.invariant.edge in
    record { x = edge_wide _ _ _ _ e; before = edge_soft _ _ _ _ e; part = edge_near _ _ _ _ _ e c.loop-i-test.true }

pub to-requires : goal.to-requires
to-requires c =
    let e : PartsEdge c.args.parts.now (c.loop-i.i - 1) c.before-edge.result.x c.before-edge.result.before = edge_back _ _ c.loop-i.edge.x _ c.loop-i.edge.before _ _ _ c.loop-i.invariant.edge c.loop-i-test.true refl c.before-edge.ensures.x c.before-edge.ensures.before in
    record { x = edge_wide _ _ _ _ e; before = edge_soft _ _ _ _ e; shrink = c.requires.shrink }

pub loop-i-preserved-in-Some : goal.loop-i-preserved-in-Some
loop-i-preserved-in-Some c =
    let at = c.before-edge.result.x -ℤ shrunk c.args.shrink.most.sp c.args.shrink.used.sp c.before-edge.result.before in
    join_step c.args.parts.now _ _ c.loop-i.i c.loop-i.edge.x c.before-edge.result.x c.loop-i.edge.before c.before-edge.result.before _ c.loop-i.marks _ _ _ c.loop-i.invariant c.loop-i-test.true refl c.before-edge.ensures.x c.before-edge.ensures.before
    (c.join.ensures ∙ (ap joined (c.in_ok-shift.ensures ∙ cc) ∙ piece_joined at _ _ c.loop-i.marks (sym c.piece_of.ensures ∙ c.in-Some.is)))

pub loop-i-preserved : goal.loop-i-preserved
loop-i-preserved c =
    join_step c.args.parts.now _ _ c.loop-i.i c.loop-i.edge.x c.before-edge.result.x c.loop-i.edge.before c.before-edge.result.before _ c.loop-i.marks _ _ _ c.loop-i.invariant c.loop-i-test.true refl c.before-edge.ensures.x c.before-edge.ensures.before
    (gap_kept _ _ c.loop-i.marks (sym c.piece_of.ensures ∙ c.in_default.is))
