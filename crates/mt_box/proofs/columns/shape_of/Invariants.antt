use Rattle.std.proofs.Common.{◌≡◌, ◌≤◌, drop, length}
use Rattle.mt_box.specs.Columns.{column_level, column_width, entry_values}
use Rattle.mt_box.proofs.columns.shape_of.Given as goal

abbrev pub invariant-loop-i : goal.invariant-loop-i
invariant-loop-i l = record {
  within : l.i ≤ length l.entries;
  width : l.width.sp ≡ column_width (entry_values (drop l.i l.entries));
  level : l.level ≡ column_level (drop l.i l.entries);
}
