use Rattle.std.proofs.Common.{length}
use Rattle.mt_macro.specs.inner.Runs.{sources, left_of}
use Rattle.mt_macro.proofs.Putting.{Flattening}
use Rattle.mt_macro.proofs.parts.take_basic.Given as goal

abbrev pub invariant-loop-run : goal.invariant-loop-run
invariant-loop-run g l =
    Flattening (sources (g.B.Lexicon.token l.tables) (g.B.Bodies.placed l.tables) (g.B.Bodies.body l.tables) l.list) l.parts.runs.items l.initial.rest l.rest l.taken.runs.items

abbrev pub decreases-loop-run : goal.decreases-loop-run
decreases-loop-run g l = length (left_of (sources (g.B.Lexicon.token l.tables) (g.B.Bodies.placed l.tables) (g.B.Bodies.body l.tables) l.list) l.parts.runs.items l.rest)
