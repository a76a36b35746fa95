use Rattle.std.proofs.Common.{◌≡◌, ◌≤◌, length, drop, map}
use Rattle.mt_macro.specs.inner.Ends.{AreEnds}
use Rattle.mt_macro.proofs.ends.ends_of.Given as goal

abbrev pub invariant-loop-index : goal.invariant-loop-index
invariant-loop-index g l = record {
  within : l.index ≤ length l.list;
  all : length l.ends.items ≡ length l.list;
  are : AreEnds (drop l.index (map (g.L.Lexicon.token l.tables) l.list)) (drop l.index l.ends.items);
}

abbrev pub decreases-loop-index : goal.decreases-loop-index
decreases-loop-index g l = l.index
