use Rattle.std.proofs.Common.{length, map}
use Rattle.mt_reader.proofs.Cutting.{InFormula}
use Rattle.mt_reader.proofs.dollars.up_to_end.Given as goal

abbrev pub invariant-loop-rest : goal.invariant-loop-rest
invariant-loop-rest g l =
    InFormula l.display (map (g.L.Lexicon.token l.tables) l.tokens) (map (g.L.Lexicon.token l.tables) l.rest) l.level l.at

abbrev pub decreases-loop-rest : goal.decreases-loop-rest
decreases-loop-rest g l = length l.rest
