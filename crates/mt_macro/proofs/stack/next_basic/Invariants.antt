use Rattle.mt_macro.specs.inner.Lengths.{depth}
use Rattle.mt_macro.specs.inner.Runs.{sources, GivesRun}
use Rattle.mt_macro.proofs.stack.next_basic.Given as goal

abbrev pub invariant-loop-run : goal.invariant-loop-run
invariant-loop-run g l = GivesRun (sources (g.B.Lexicon.token l.tables) (g.B.Bodies.placed l.tables) (g.B.Bodies.body l.tables) l.list) l.parts.runs.items l.fn.rest l.rest l.run

abbrev pub decreases-loop-run : goal.decreases-loop-run
decreases-loop-run g l = depth l.run
