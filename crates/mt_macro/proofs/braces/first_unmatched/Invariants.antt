use Rattle.std.proofs.Common.{length, map}
use Rattle.mt_macro.proofs.Unmatched.{Watching}
use Rattle.mt_macro.proofs.braces.first_unmatched.Given as goal

abbrev pub invariant-loop-rest : goal.invariant-loop-rest
invariant-loop-rest g l = Watching (map (g.L.Lexicon.token l.tables) l.list) l.level l.outermost l.index (map (g.L.Lexicon.token l.tables) l.rest)

abbrev pub decreases-loop-rest : goal.decreases-loop-rest
decreases-loop-rest g l = length l.rest
