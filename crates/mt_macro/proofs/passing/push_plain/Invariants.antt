use Rattle.std.proofs.Common.{length, map}
use Rattle.mt_macro.specs.Origins.{put_as}
use Rattle.mt_macro.proofs.Plains.{Pushing}
use Rattle.mt_macro.proofs.passing.push_plain.Given as goal

abbrev pub invariant-loop-rest : goal.invariant-loop-rest
invariant-loop-rest g l =
    Pushing (g.B.Bodies.macros l.tables) (map (put_as (g.B.Lexicon.token l.tables) (g.B.Bodies.placed l.tables) l.origin) l.items) l.count (map (put_as (g.B.Lexicon.token l.tables) (g.B.Bodies.placed l.tables) l.origin) l.rest) (map (g.B.Lexicon.token l.tables) l.initial.out.items) (map (g.B.Lexicon.token l.tables) l.out.items)

abbrev pub decreases-loop-rest : goal.decreases-loop-rest
decreases-loop-rest g l = length l.rest
