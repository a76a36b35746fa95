use Rattle.std.proofs.Common.{◌≡◌, ◌+◌, drop}
use Rattle.mt_explain.specs.Positions.{before_feed}
use Rattle.mt_explain.proofs.position.before_feed.Given as goal

abbrev pub invariant-loop-byte : goal.invariant-loop-byte
invariant-loop-byte l = record {
  counts : l.count ≡ l.byte-index;
  is : before_feed l.rest ≡ l.count + before_feed (drop l.count l.rest);
}
