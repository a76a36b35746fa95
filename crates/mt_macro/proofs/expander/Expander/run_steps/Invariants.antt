use Rattle.std.proofs.Common.{map, ◌-◌}
use Rattle.mt_macro.specs.Limits.{max_steps}
use Rattle.mt_macro.specs.PlacedExpansion.{placed_run}
use Rattle.mt_macro.specs.inner.Runs.{sources}
use Rattle.mt_macro.proofs.Steps.{Stepping}
use Rattle.mt_macro.proofs.expander.Expander.run_steps.Given as goal

abbrev pub invariant-loop-next : goal.invariant-loop-next
invariant-loop-next g l =
    Stepping (placed_run (g.B.Bodies.placed l.tables) (g.B.Bodies.macros l.tables) max_steps 0 (map (g.B.Lexicon.token l.tables) l.list)) (g.B.Bodies.placed l.tables) (g.B.Bodies.macros l.tables)
    (sources (g.B.Lexicon.token l.tables) (g.B.Bodies.placed l.tables) (g.B.Bodies.body l.tables) l.list) l.steps (map (g.B.Lexicon.token l.tables) l.out.items) l.self.parts.runs.items l.self.rest

abbrev pub decreases-loop-next : goal.decreases-loop-next
decreases-loop-next g l = max_steps - l.steps
