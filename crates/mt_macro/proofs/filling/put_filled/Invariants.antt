use Rattle.std.proofs.Common.{length}
use Rattle.mt_macro.specs.inner.Runs.{sources}
use Rattle.mt_macro.proofs.Putting.{Putting}
use Rattle.mt_macro.proofs.filling.put_filled.Given as goal

abbrev pub invariant-loop-run : goal.invariant-loop-run
invariant-loop-run g l =
    Putting (sources (g.B.Lexicon.token l.tables) (g.B.Bodies.placed l.tables) (g.B.Bodies.body l.tables) l.list) l.parts.runs.items l.initial.filled l.initial.rest l.filled l.rest

abbrev pub decreases-loop-run : goal.decreases-loop-run
decreases-loop-run g l = length l.filled.runs.items
