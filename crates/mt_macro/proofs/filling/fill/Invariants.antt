use Rattle.std.proofs.Common.{length, map, ◌-◌}
use Rattle.mt_macro.specs.inner.Runs.{sources, called_body, meanings}
use Rattle.mt_macro.proofs.Fillings.{Filling}
use Rattle.mt_macro.proofs.filling.fill.Given as goal

abbrev pub invariant-loop-index : goal.invariant-loop-index
invariant-loop-index g l =
    Filling (sources (g.B.Lexicon.token l.tables) (g.B.Bodies.placed l.tables) (g.B.Bodies.body l.tables) l.list) (meanings (sources (g.B.Lexicon.token l.tables) (g.B.Bodies.placed l.tables) (g.B.Bodies.body l.tables) l.list) l.parts.runs.items) (called_body (g.B.Bodies.placed l.tables) (map (g.B.Lexicon.token l.tables) l.list) (g.B.Bodies.body l.tables) l.called) l.taken l.at l.filled

abbrev pub decreases-loop-index : goal.decreases-loop-index
decreases-loop-index g l = length (g.B.Bodies.body l.tables l.called.number) - l.at
