use Rattle.std.proofs.Common.{◌≡◌}
use Rattle.mt_arena.specs.Arena.{grid_in}
use Rattle.mt_rules.specs.Sequence.{grid_length}
use Rattle.mt_rules.specs.Equations.{equations_of}
use Rattle.mt_pages.proofs.Common.{AreModestEquations, equation_layout, equation_level, equation_boxes}
use Rattle.mt_pages.specs.inner.Lines.{EquationHolds}
use Rattle.mt_pages.proofs.DisplayLemmas.{RowsSet}
use Rattle.mt_pages.proofs.display_rows.set_equations.Given as goal

abbrev pub invariant-loop-cells : goal.invariant-loop-cells
invariant-loop-cells l = record {
  set : RowsSet (equation_boxes l.fonts l.n) equation_layout equation_level (EquationHolds l.fonts) (equations_of (grid_in l.arena.closed l.fn.rows)) (equations_of (grid_in l.arena.closed l.left)) l.boxes.items;
  modest : AreModestEquations (equations_of (grid_in l.arena.closed l.left));
  end : l.left.end ≡ l.fn.rows.end;
  stay : l.pieces ≡ l.fn.pieces;
}

abbrev pub decreases-loop-cells : goal.decreases-loop-cells
decreases-loop-cells l = grid_length (grid_in l.arena.closed l.left)
