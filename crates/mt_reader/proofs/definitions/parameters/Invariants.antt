use Rattle.std.proofs.Common.{length, map}
use Rattle.mt_reader.proofs.Defining.{Parameters}
use Rattle.mt_reader.proofs.definitions.parameters.Given as goal

abbrev pub invariant-loop-rest : goal.invariant-loop-rest
invariant-loop-rest g l = Parameters (map (g.L.Lexicon.token l.tables) l.tokens) (map (g.L.Lexicon.token l.tables) l.rest) l.count

abbrev pub decreases-loop-rest : goal.decreases-loop-rest
decreases-loop-rest g l = length l.rest
