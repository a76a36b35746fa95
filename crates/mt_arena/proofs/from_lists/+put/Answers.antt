use Rattle.std.proofs.Common.{◌≤◌, ◌+◌, ap, subst, arith}
use Rattle.mt_rules.specs.Sequence.{sequence_size, element_size, rows_size, grid_size}
use Rattle.mt_rules.specs.View.{element_of, sequence_of}
use Rattle.mt_rules.specs.Rows.{rows_of, grid_of}
use Rattle.mt_arena.specs.Arena.{ItemHeld, RowHeld, CellsHeld, as_sequence, as_rows, as_grid}
use Rattle.mt_arena.proofs.Putting.{item_smaller, row_smaller, cells_smaller, items_sequence, rows_as_rows, cells_as_grid, closed_items, span_same, inner_lists, rows_lists, grid_lists}
use Rattle.mt_arena.specs.Keeping.{InnerLists, RowsLists, GridLists}
use Rattle.mt_arena.proofs.Growing.{on_ok}
use Rattle.mt_arena.proofs.from_lists.+put.Goals as goal

pub put_list-put_item-requires : goal.put_list-put_item-requires
put_list-put_item-requires t c =
    let is = c.as_slice-item-items.result.now in
    let h = item_smaller is c.loop-item.item-index c.item-item.result (omega (arith, c.loop-item-test.true)) in
    let k : element_size (element_of c.item-item.result) + 1 ≤ sequence_size c.args.list.now =
    omega (arith, ap (λ i. element_size (element_of i)) c.item-item.is, h, ap sequence_size c.as_slice-item-items.ensures.items) in
    (omega (arith, k), tt)

pub put_list-returns-clause-is : goal.put_list-returns-clause-is
put_list-returns-clause-is t c =
    span_same c.close.result as_sequence c.close.new.self.closed _ c.args.list.now
    (closed_items as_sequence (λ i. ItemHeld (element_of i)) sequence_of items_sequence c.loop-item.arena.top c.as_slice-item-items.result.now c.loop-item.item-index c.args.list.now
    c.loop-item.invariant.top (omega (arith, c.loop-item-test.false)) c.as_slice-item-items.ensures.items)
    c.close.ensures.is

pub put_rows-put_list-requires : goal.put_rows-put_list-requires
put_rows-put_list-requires t c =
    let is = c.as_slice-list-items.result.now in
    let h = row_smaller is c.loop-list.list-index c.list-item.result (omega (arith, c.loop-list-test.true)) in
    let k : sequence_size c.list-item.result + 1 ≤ rows_size c.args.rows.now =
    omega (arith, ap (λ i. sequence_size i) c.list-item.is, h, ap rows_size c.as_slice-list-items.ensures) in
    (omega (arith, k), tt)

pub put_rows-returns-clause-is : goal.put_rows-returns-clause-is
put_rows-returns-clause-is t c =
    span_same c.close.result as_rows c.close.new.self.closed _ c.args.rows.now
    (closed_items as_rows (λ s. RowHeld s) rows_of rows_as_rows c.loop-list.arena.top c.as_slice-list-items.result.now c.loop-list.list-index c.args.rows.now
    c.loop-list.invariant.top (omega (arith, c.loop-list-test.false)) c.as_slice-list-items.ensures)
    c.close.ensures.is

pub put_grid-put_rows-requires : goal.put_grid-put_rows-requires
put_grid-put_rows-requires t c =
    let is = c.as_slice-cells-items.result.now in
    let h = cells_smaller is c.loop-cells.cells-index c.cells-item.result (omega (arith, c.loop-cells-test.true)) in
    let k : rows_size c.cells-item.result + 1 ≤ grid_size c.args.grid.now =
    omega (arith, ap (λ i. rows_size i) c.cells-item.is, h, ap grid_size c.as_slice-cells-items.ensures) in
    (omega (arith, k), tt)

pub put_grid-returns-clause-is : goal.put_grid-returns-clause-is
put_grid-returns-clause-is t c =
    span_same c.close.result as_grid c.close.new.self.closed _ c.args.grid.now
    (closed_items as_grid (λ r. CellsHeld r) grid_of cells_as_grid c.loop-cells.arena.top c.as_slice-cells-items.result.now c.loop-cells.cells-index c.args.grid.now
    c.loop-cells.invariant.top (omega (arith, c.loop-cells-test.false)) c.as_slice-cells-items.ensures)
    c.close.ensures.is

pub put_list-returns-clause-lists : goal.put_list-returns-clause-lists
put_list-returns-clause-lists t c =
    on_ok c.close.result (
      c.as_slice-item-items.ensures.facts,
      (subst (λ s. InnerLists s)
          (closed_items as_sequence (λ i. ItemHeld (element_of i)) sequence_of items_sequence c.loop-item.arena.top c.as_slice-item-items.result.now c.loop-item.item-index c.args.list.now
          c.loop-item.invariant.top (omega (arith, c.loop-item-test.false)) c.as_slice-item-items.ensures.items)
          (inner_lists _ c.close.ensures.lists)),
    )

pub put_rows-returns-clause-lists : goal.put_rows-returns-clause-lists
put_rows-returns-clause-lists t c =
    on_ok c.close.result (subst (λ s. RowsLists s)
    (closed_items as_rows (λ s. RowHeld s) rows_of rows_as_rows c.loop-list.arena.top c.as_slice-list-items.result.now c.loop-list.list-index c.args.rows.now
    c.loop-list.invariant.top (omega (arith, c.loop-list-test.false)) c.as_slice-list-items.ensures)
    (rows_lists _ c.close.ensures.lists))

pub put_grid-returns-clause-lists : goal.put_grid-returns-clause-lists
put_grid-returns-clause-lists t c =
    on_ok c.close.result (subst (λ s. GridLists s)
    (closed_items as_grid (λ r. CellsHeld r) grid_of cells_as_grid c.loop-cells.arena.top c.as_slice-cells-items.result.now c.loop-cells.cells-index c.args.grid.now
    c.loop-cells.invariant.top (omega (arith, c.loop-cells-test.false)) c.as_slice-cells-items.ensures)
    (grid_lists _ c.close.ensures.lists))
