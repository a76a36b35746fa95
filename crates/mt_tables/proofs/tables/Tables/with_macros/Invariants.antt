use Rattle.std.proofs.Common.{◌≡◌, take}
use Rattle.mt_macro.specs.Placeless.{placeless_table}
use Rattle.mt_tables.proofs.tables.Tables.with_macros.Given as goal

abbrev pub invariant-loop-index : goal.invariant-loop-index
invariant-loop-index l = record {
  macros : l.tables.macros ≡ take l.index (placeless_table l.macros);
  codes : l.tables.codes ≡ l.fn.codes;
}
