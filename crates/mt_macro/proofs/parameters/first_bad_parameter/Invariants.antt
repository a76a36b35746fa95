use Rattle.std.proofs.Common.{length, map}
use Rattle.mt_macro.proofs.Hashes.{Looking}
use Rattle.mt_macro.proofs.parameters.first_bad_parameter.Given as goal

abbrev pub invariant-loop-rest : goal.invariant-loop-rest
invariant-loop-rest g l =
    Looking l.params (map (g.L.Lexicon.token l.tables) l.body) l.index (map (g.L.Lexicon.token l.tables) l.rest)

abbrev pub decreases-loop-rest : goal.decreases-loop-rest
decreases-loop-rest g l = length l.rest
