use Rattle.std.proofs.Common.{arith}
use Rattle.mt_box.proofs.Flat.{flat_marks}
use Rattle.mt_box.proofs.marks.stack.Marks.of_box.Goals as goal

pub invariant_of-result : goal.invariant_of-result
invariant_of-result c = record { marks = flat_marks _ _ _ c.body.invariant.flat; starts = rw (c.in_ok-push.ensures.items, c.new-starts.ensures.items) (omega arith, tt) }
