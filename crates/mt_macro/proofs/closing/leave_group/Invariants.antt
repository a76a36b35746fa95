use Rattle.std.proofs.Common.{length, map}
use Rattle.mt_macro.specs.inner.Ends.{AreEnds}
use Rattle.mt_macro.proofs.Ending.{Leaving}
use Rattle.mt_macro.proofs.closing.leave_group.Given as goal

abbrev pub invariant-loop-rest : goal.invariant-loop-rest
invariant-loop-rest g l = record {
  leaving : Leaving l.before (map (g.L.Lexicon.token l.tables) l.items) l.level l.index (map (g.L.Lexicon.token l.tables) l.rest);
  ends : AreEnds (map (g.L.Lexicon.token l.tables) l.rest) l.known;
}

abbrev pub decreases-loop-rest : goal.decreases-loop-rest
decreases-loop-rest g l = length l.rest
