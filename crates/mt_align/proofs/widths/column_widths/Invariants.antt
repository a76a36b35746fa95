use Rattle.std.proofs.Common.{◌≡◌, ◌≤◌, drop, length, All}
use Rattle.mt_scaled.specs.Number.{Within, max_dimen}
use Rattle.mt_rules.specs.Tables.{column_widths}
use Rattle.mt_align.specs.CellLayers.{bare_rows}
use Rattle.mt_align.proofs.widths.column_widths.Given as goal

abbrev pub invariant-loop-i : goal.invariant-loop-i
invariant-loop-i l = record {
  within : l.i ≤ length l.rows;
  is : l.widths.items ≡ column_widths (bare_rows (drop l.i l.rows));
  small : All (Within max_dimen) l.widths.items;
}
