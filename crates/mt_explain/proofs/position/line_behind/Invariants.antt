use Rattle.std.proofs.Common.{◌≡◌, ◌+◌, ◌≤◌, take, nat_eq}
use Rattle.std.specs.List.{count_by}
use Rattle.mt_explain.proofs.position.line_behind.Given as goal

abbrev pub invariant-loop-byte : goal.invariant-loop-byte
invariant-loop-byte l = record {
  is : l.line ≡ 1 + count_by (nat_eq 10) (take l.byte-index l.before);
  small : l.line ≤ l.byte-index + 1;
}
