use Rattle.std.proofs.Common.{drop}
use Rattle.mt_box.specs.Placing.{all_lowered}
use Rattle.mt_box.specs.inner.Nodes.{node_places}
use Rattle.mt_box.specs.inner.Putting.{IsFront}
use Rattle.mt_box.proofs.Putting.{Putting}
use Rattle.mt_box.proofs.placing.put_marks.Given as goal

abbrev pub invariant-loop-node : goal.invariant-loop-node
invariant-loop-node l = record {
  put : Putting (all_lowered l.at.h l.at.v (node_places l.nodes)) l.room l.fn.places.items l.places.items (all_lowered l.at.h l.at.v (node_places (drop l.node-index l.nodes)));
  kept : IsFront l.fn.places.items l.places.items;
}
