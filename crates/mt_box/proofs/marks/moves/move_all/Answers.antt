use Rattle.std.proofs.Common.{◌<◌, ◌∙◌, ap, set, length, rules}
use Rattle.std.proofs.lemmas.List.Elements.{All-set, All-get_or}
use Rattle.mt_box.specs.inner.Nodes.{HasMark, node_moved}
use Rattle.mt_box.proofs.Lists.{one_changed}
use Rattle.mt_box.proofs.marks.moves.move_all.Goals as goal

pub loop-node-preserved : goal.loop-node-preserved
loop-node-preserved c =
    let p = c.loop-node.invariant in
    let low : c.loop-node.node-index < length c.loop-node.node-items = search rules in
    record {
      moved = ap (λ n. set c.loop-node.node-items c.loop-node.node-index n) c.in_ok-move_node.ensures.is ∙ one_changed (node_moved c.args.by.right c.args.by.up) c.loop-node.node-index c.args.nodes.now c.loop-node.node-items _ c.loop-node-test.true p.moved;
      marks = λ h. All-set HasMark c.loop-node.node-items c.loop-node.node-index c.move_node.new.node (rw (c.move_node.ensures.mark) (All-get_or HasMark c.loop-node.node-items c.loop-node.node-index _ low (p.marks h))) (p.marks h);
    }
