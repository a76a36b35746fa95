use Rattle.std.proofs.Common.{length, map}
use Rattle.mt_macro.proofs.Fillings.{Walking}
use Rattle.mt_macro.proofs.filling.next_parameter.Given as goal

abbrev pub invariant-loop-rest : goal.invariant-loop-rest
invariant-loop-rest g l = Walking (map (g.L.Lexicon.token l.tables) l.items) l.index (map (g.L.Lexicon.token l.tables) l.rest)

abbrev pub decreases-loop-rest : goal.decreases-loop-rest
decreases-loop-rest g l = length l.rest
