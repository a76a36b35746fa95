use Rattle.mt_align.proofs.Rows.{total_small}
use Rattle.mt_align.proofs.matrix.matrix_drops.Goals as goal

pub invariant_of-result : goal.invariant_of-result
invariant_of-result c = record {
  near = c.in_ok-lines.ensures.near;
  small = total_small c.in_ok-lines.lines.so_far.total.sp c.gap_before-gap.result.sp c.behind_strut-start.result.total.sp c.plus-below.result.sp c.plus.result.sp c.plus.ensures c.plus-below.ensures c.in_ok-lines.ensures.small c.gap_before-gap.ensures.small c.behind_strut-start.ensures.small;
}
