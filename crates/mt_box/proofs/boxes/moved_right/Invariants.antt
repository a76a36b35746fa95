use Rattle.std.proofs.Common.{◌≡◌, ◌++◌, take, drop, pos}
use Rattle.mt_box.specs.inner.Nodes.{nodes_moved}
use Rattle.mt_box.proofs.boxes.moved_right.Given as goal

abbrev pub invariant-loop-i : goal.invariant-loop-i
invariant-loop-i l = l.nodes.items ≡ nodes_moved l.by.right (pos 0) (take l.i l.fn.nodes.items) ++ drop l.i l.fn.nodes.items
