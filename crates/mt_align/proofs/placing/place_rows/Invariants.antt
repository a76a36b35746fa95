use Rattle.std.proofs.Common.{◌≡◌, ◌≤◌, drop, length}
use Rattle.mt_align.specs.CellsJoined.{rows_joined}
use Rattle.mt_align.proofs.placing.place_rows.Given as goal

abbrev pub invariant-loop-i : goal.invariant-loop-i
invariant-loop-i l = record {
  within : l.i ≤ length l.fn.rows;
  marks : l.marks ≡ rows_joined l.fn.shape.look l.fn.shape.gap.sp l.fn.top.sp l.fn.shape.widths.items (drop l.i l.fn.drops) (drop l.i l.fn.rows) l.fn.marks;
}
