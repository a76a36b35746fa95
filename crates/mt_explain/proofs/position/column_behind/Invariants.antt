use Rattle.std.proofs.Common.{◌≡◌, ◌+◌, ◌≤◌, take}
use Rattle.std.specs.List.{fold}
use Rattle.mt_explain.specs.Positions.{column_after}
use Rattle.mt_explain.proofs.position.column_behind.Given as goal

abbrev pub invariant-loop-byte : goal.invariant-loop-byte
invariant-loop-byte l = record {
  is : l.column ≡ fold column_after 1 (take l.byte-index l.before);
  within : l.column ≤ l.byte-index + 1;
  first : 1 ≤ l.column;
}
