use Rattle.std.proofs.Common.{◌≡◌, ◌++◌}
use Rattle.mt_rules.specs.Sequence.{grid_length}
use Rattle.mt_arena.specs.Arena.{grid_in}
use Rattle.mt_rules.specs.Equations.{equations_of}
use Rattle.mt_arena.proofs.formulas.equations_of.Given as goal

abbrev pub invariant-loop-row : goal.invariant-loop-row
invariant-loop-row l = record {
  end : l.rest.end ≡ l.fn.rows.end;
  is : l.equations.items ++ equations_of (grid_in l.arena.closed l.rest) ≡ equations_of (grid_in l.fn.arena.closed l.fn.rows);
}

abbrev pub decreases-loop-row : goal.decreases-loop-row
decreases-loop-row l = grid_length (grid_in l.arena.closed l.rest)
