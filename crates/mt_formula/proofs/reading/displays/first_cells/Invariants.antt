use Rattle.std.proofs.Common.{◌≡◌, ◌≤◌, ◌∷◌, length}
use Rattle.mt_rules.specs.Sequence.{grid_length}
use Rattle.mt_arena.specs.Arena.{as_rows, grid_in}
use Rattle.mt_formula.specs.Displays.{first_cells}
use Rattle.mt_formula.specs.reading.Tables.{append_rows}
use Rattle.mt_formula.proofs.reading.displays.first_cells.Given as goal

abbrev pub invariant-loop-cells : goal.invariant-loop-cells
invariant-loop-cells l = record {
  closed : l.arena.closed ≡ l.fn.arena.closed;
  below : l.arena.below ≡ l.fn.arena.top ∷ l.fn.arena.below;
  within : l.rest.end ≤ length l.arena.closed;
  is : append_rows (as_rows l.arena.top) (first_cells (grid_in l.arena.closed l.rest)) ≡ first_cells (grid_in l.fn.arena.closed l.fn.rows);
}

abbrev pub decreases-loop-cells : goal.decreases-loop-cells
decreases-loop-cells l = grid_length (grid_in l.arena.closed l.rest)
