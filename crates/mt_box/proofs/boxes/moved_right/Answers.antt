use Rattle.std.proofs.Common.{◌<◌, ◌∙◌, ◌^◌, ap, length, pos, set, rules, sym, subst}
use Rattle.mt_scaled.specs.Number.{Within}
use Rattle.mt_box.specs.declared.node.Node.{Node}
use Rattle.mt_box.specs.inner.Boxes.{reach}
use Rattle.mt_box.specs.inner.Nodes.{node_moved}
use Rattle.mt_box.proofs.Flat.{flat_near}
use Rattle.mt_box.proofs.Lists.{unchanged_at, one_changed}
use Rattle.mt_box.proofs.boxes.moved_right.Goals as goal

pub node_moved_right-requires-clause-node : goal.node_moved_right-requires-clause-node
node_moved_right-requires-clause-node c =
    let is = c.args.nodes.items in
    let i = c.loop-i.i in
    let low : i < length is = search rules in
    let same = c.index.ensures ∙ unchanged_at (node_moved c.args.by.right (pos 0)) i is c.loop-i.nodes.items c.index.result.now low c.loop-i.invariant in
    subst (λ (n : Node). Within (reach (2 ^ 20)) n.x) (sym same) (flat_near _ 0 i is c.index.result.now low c.requires.nodes)

pub loop-i-preserved : goal.loop-i-preserved
loop-i-preserved c =
    let is = c.args.nodes.items in
    let i = c.loop-i.i in
    let low : i < length is = search rules in
    ap (λ n. set c.loop-i.nodes.items i n) (c.node_moved_right.ensures ∙ ap (node_moved c.args.by.right (pos 0)) c.index.ensures)
    ∙ one_changed (node_moved c.args.by.right (pos 0)) i is c.loop-i.nodes.items c.index.result.now low c.loop-i.invariant
