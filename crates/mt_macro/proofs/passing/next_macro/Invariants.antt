use Rattle.std.proofs.Common.{length, map}
use Rattle.mt_macro.specs.inner.Passing.{PassesPlain}
use Rattle.mt_macro.specs.inner.Runs.{sources, left_of, AreLeft}
use Rattle.mt_macro.proofs.passing.next_macro.Given as goal

abbrev pub invariant-loop-run : goal.invariant-loop-run
invariant-loop-run g l =
    let src = sources (g.B.Lexicon.token l.tables) (g.B.Bodies.placed l.tables) (g.B.Bodies.body l.tables) l.list in
    record {
      left : AreLeft src l.parts.runs.items l.rest;
      passes : PassesPlain (g.B.Bodies.macros l.tables) (left_of src l.parts.runs.items l.fn.rest) (left_of src l.parts.runs.items l.rest) (map (g.B.Lexicon.token l.tables) l.fn.out.items) (map (g.B.Lexicon.token l.tables) l.out.items);
    }

abbrev pub decreases-loop-run : goal.decreases-loop-run
decreases-loop-run g l = length (left_of (sources (g.B.Lexicon.token l.tables) (g.B.Bodies.placed l.tables) (g.B.Bodies.body l.tables) l.list) l.parts.runs.items l.rest)
