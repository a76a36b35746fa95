use Rattle.std.proofs.Common.{◌≡◌, ◌++◌, take, drop}
use Rattle.mt_box.specs.inner.Nodes.{nodes_moved, AreMarks}
use Rattle.mt_box.proofs.marks.moves.move_all.Given as goal

abbrev pub invariant-loop-node : goal.invariant-loop-node
invariant-loop-node l = record {
  moved : l.node-items ≡ nodes_moved l.by.right l.by.up (take l.node-index l.fn.nodes) ++ drop l.node-index l.fn.nodes;
  marks : AreMarks l.fn.nodes → AreMarks l.node-items;
}
