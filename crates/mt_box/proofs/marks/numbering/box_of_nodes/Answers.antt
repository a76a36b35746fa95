use Rattle.std.proofs.Common.{arith}
use Rattle.mt_box.specs.inner.Boxes.{reach}
use Rattle.mt_box.proofs.Flat.{flat_wider}
use Rattle.mt_box.proofs.marks.numbering.box_of_nodes.Goals as goal

pub invariant_of-result : goal.invariant_of-result
invariant_of-result c = record {
  extents = c.requires.extents;
  level = c.requires.level;
  level_low = c.requires.level_low;
  flat = flat_wider (reach 0) _ _ _ (omega arith) c.in_ok-nodes.ensures.flat;
}
