use Rattle.std.proofs.Common.{ap, ◌∙◌, arith, length}
use Rattle.mt_arena.specs.Arena.{as_rows, grid_in, rows_in}
use Rattle.mt_arena.proofs.Putting.{span_same}
use Rattle.mt_formula.specs.Displays.{first_cells}
use Rattle.mt_formula.specs.reading.Tables.{append_rows}
use Rattle.mt_formula.proofs.DisplayReading.{lines_end, lines_kept, lines_on}
use Rattle.mt_formula.proofs.reading.displays.first_cells.Goals as goal

pub loop-cells-preserved : goal.loop-cells-preserved
loop-cells-preserved c =
    let es = c.loop-cells.arena.closed in
    let i = c.loop-cells.invariant in
    record {
      closed = c.in_ok-push_first_cell.ensures.closed ∙ i.closed;
      below = c.in_ok-push_first_cell.ensures.below ∙ i.below;
      within = omega (arith, c.in-Some.ensures.end, i.within, ap length c.in_ok-push_first_cell.ensures.closed);
      is =
          ap (λ hs. append_rows (as_rows c.push_first_cell.new.arena.top) (first_cells (grid_in hs c.next_cells.new.rows))) c.in_ok-push_first_cell.ensures.closed
          ∙ lines_on c.loop-cells.arena.top c.push_first_cell.new.arena.top (rows_in es c.in-Some.cells) _ (grid_in es c.loop-cells.rest) (grid_in es c.next_cells.new.rows) c.in_ok-push_first_cell.ensures.top c.in-Some.ensures.is i.is;
    }

pub returns-clause-is : goal.returns-clause-is
returns-clause-is c =
    span_same c.close.result as_rows c.close.new.self.closed c.loop-cells.arena.top _
    (lines_end c.loop-cells.arena.top _ (grid_in c.loop-cells.arena.closed c.loop-cells.rest) c.in_default.ensures.is c.loop-cells.invariant.is) c.close.ensures.is

pub returns-clause-lists : goal.returns-clause-lists
returns-clause-lists c = lines_kept c.close.result _ c.loop-cells.arena.top c.close.ensures.is c.close.ensures.lists
