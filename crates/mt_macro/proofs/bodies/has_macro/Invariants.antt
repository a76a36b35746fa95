use Rattle.std.proofs.Common.{◌≡◌, length, map}
use Rattle.std.specs.List.{list_any}
use Rattle.mt_macro.specs.Naming.{names_macro}
use Rattle.mt_macro.proofs.bodies.has_macro.Given as goal

abbrev pub invariant-loop-rest : goal.invariant-loop-rest
invariant-loop-rest g l =
    list_any (names_macro (g.B.Bodies.macros l.tables)) (map (g.B.Lexicon.token l.tables) l.list) ≡ list_any (names_macro (g.B.Bodies.macros l.tables)) (map (g.B.Lexicon.token l.tables) l.rest)

abbrev pub decreases-loop-rest : goal.decreases-loop-rest
decreases-loop-rest g l = length l.rest
