use Rattle.std.proofs.Common.{take, ◌+◌, ◌*◌}
use Rattle.mt_rules.specs.Sequence.{sequence_size, element_size, part_size, rows_size, grid_size, root_size}
use Rattle.mt_rules.specs.View.{element_of, atom_element, fraction_element, choice_element, part_of_field}
use Rattle.mt_arena.proofs.Putting.{PutSoFar, items_held, rows_held, cells_held}
use Rattle.mt_arena.proofs.from_lists.+put.Given as goal

abbrev pub decreases-put_list : goal.decreases-put_list
decreases-put_list l = 10 * sequence_size l.list.now

abbrev pub decreases-put_item : goal.decreases-put_item
decreases-put_item l = 10 * element_size (element_of l.item.now) + 5

abbrev pub decreases-put_atom : goal.decreases-put_atom
decreases-put_atom l = 10 * element_size (atom_element l.atom.now) + 4

abbrev pub decreases-put_fraction : goal.decreases-put_fraction
decreases-put_fraction l = 10 * element_size (fraction_element l.fraction.now) + 4

abbrev pub decreases-put_choice : goal.decreases-put_choice
decreases-put_choice l = 10 * element_size (choice_element l.choice.now) + 4

abbrev pub decreases-put_field : goal.decreases-put_field
decreases-put_field l = 10 * part_size (part_of_field l.field.now) + 5

abbrev pub decreases-put_root : goal.decreases-put_root
decreases-put_root l = 10 * root_size l.root.now + 7

abbrev pub decreases-put_rows : goal.decreases-put_rows
decreases-put_rows l = 10 * rows_size l.rows.now

abbrev pub decreases-put_grid : goal.decreases-put_grid
decreases-put_grid l = 10 * grid_size l.grid.now

abbrev pub invariant-put_list-loop-item : goal.invariant-put_list-loop-item
invariant-put_list-loop-item l = PutSoFar l.fn.arena l.arena (items_held (take l.item-index l.item-items))

abbrev pub invariant-put_rows-loop-list : goal.invariant-put_rows-loop-list
invariant-put_rows-loop-list l = PutSoFar l.fn.arena l.arena (rows_held (take l.list-index l.list-items))

abbrev pub invariant-put_grid-loop-cells : goal.invariant-put_grid-loop-cells
invariant-put_grid-loop-cells l = PutSoFar l.fn.arena l.arena (cells_held (take l.cells-index l.cells-items))
