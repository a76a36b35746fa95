use Rattle.std.proofs.Common.{◌+◌, ◌*◌, ◌≤◌, length}
use Rattle.mt_convert.proofs.Common.{sequence_size, rows_size, grid_size, element_size, part_size, cell_part, grid_in, rows_in, sequence_in, rest_in, KeptRest}
use Rattle.mt_convert.specs.inner.Spans.{atom_in, fraction_in, passed_in}
use Rattle.mt_convert.specs.inner.Turns.{element_of_passed}
use Rattle.mt_convert.proofs.Going.{Going}
use Rattle.mt_convert.proofs.kinds.RowBoxes.{RowsSoFar}
use Rattle.mt_convert.proofs.kinds.TableBoxes.{CellsSoFar}
use Rattle.mt_convert.proofs.list.+setting.Given as goal

abbrev pub decreases-set_span_on : goal.decreases-set_span_on
decreases-set_span_on l = 10 * sequence_size (sequence_in l.context.arena.now.closed l.list) + 2

abbrev pub decreases-first_pass_on : goal.decreases-first_pass_on
decreases-first_pass_on l = 10 * sequence_size (sequence_in l.context.arena.now.closed l.list) + 1

abbrev pub decreases-clean_list : goal.decreases-clean_list
decreases-clean_list l = 10 * sequence_size (sequence_in l.context.arena.now.closed l.list) + 3

abbrev pub decreases-pack_list : goal.decreases-pack_list
decreases-pack_list l = 10 * sequence_size (sequence_in l.context.arena.now.closed l.list) + 3

abbrev pub decreases-clean_field : goal.decreases-clean_field
decreases-clean_field l = 10 * part_size (cell_part l.context.arena.now.closed l.field) + 1

abbrev pub decreases-set_script : goal.decreases-set_script
decreases-set_script l = 10 * part_size (cell_part l.context.arena.now.closed l.field) + 2

abbrev pub decreases-set_rows : goal.decreases-set_rows
decreases-set_rows l = 10 * rows_size (rows_in l.context.arena.now.closed l.rows) + 2

abbrev pub invariant-set_rows-loop-list : goal.invariant-set_rows-loop-list
invariant-set_rows-loop-list l =
    (l.rest.end ≤ length l.context.arena.now.closed)
    × RowsSoFar l.context.fonts.now l.look (rows_in l.context.arena.now.closed l.fn.rows) (rows_in l.context.arena.now.closed l.rest) l.count l.fn.pieces l.pieces

abbrev pub decreases-set_rows-loop-list : goal.decreases-set_rows-loop-list
decreases-set_rows-loop-list l = rows_size (rows_in l.context.arena.now.closed l.rest)

abbrev pub decreases-set_table : goal.decreases-set_table
decreases-set_table l = 10 * grid_size (grid_in l.context.arena.now.closed l.rows) + 4

abbrev pub decreases-set_cells : goal.decreases-set_cells
decreases-set_cells l = 10 * grid_size (grid_in l.context.arena.now.closed l.rows) + 3

abbrev pub invariant-set_cells-loop-cells : goal.invariant-set_cells-loop-cells
invariant-set_cells-loop-cells l =
    (l.rest.end ≤ length l.context.arena.now.closed)
    × CellsSoFar l.context.fonts.now l.look (grid_in l.context.arena.now.closed l.fn.rows) (grid_in l.context.arena.now.closed l.rest) l.counts.items l.fn.pieces l.pieces

abbrev pub decreases-set_cells-loop-cells : goal.decreases-set_cells-loop-cells
decreases-set_cells-loop-cells l = grid_size (grid_in l.context.arena.now.closed l.rest)

abbrev pub decreases-set_accent : goal.decreases-set_accent
decreases-set_accent l = 10 * part_size (cell_part l.context.arena.now.closed l.field) + 2

abbrev pub decreases-set_vcenter : goal.decreases-set_vcenter
decreases-set_vcenter l = 10 * part_size (cell_part l.context.arena.now.closed l.field) + 2

abbrev pub decreases-set_plain : goal.decreases-set_plain
decreases-set_plain l = 10 * part_size (cell_part l.context.arena.now.closed l.field) + 2

abbrev pub decreases-pack_field : goal.decreases-pack_field
decreases-pack_field l = 10 * part_size (cell_part l.context.arena.now.closed l.field) + 3

abbrev pub decreases-set_veil : goal.decreases-set_veil
decreases-set_veil l = 10 * part_size (cell_part l.context.arena.now.closed l.field) + 4

abbrev pub decreases-set_root : goal.decreases-set_root
decreases-set_root l = 10 * part_size (cell_part l.context.arena.now.closed l.nucleus) + 4

abbrev pub decreases-set_part : goal.decreases-set_part
decreases-set_part l = 10 * part_size (cell_part l.context.arena.now.closed l.field) + 5

abbrev pub decreases-set_nucleus : goal.decreases-set_nucleus
decreases-set_nucleus l = 10 * part_size (cell_part l.context.arena.now.closed l.field) + 6

abbrev pub decreases-set_operator : goal.decreases-set_operator
decreases-set_operator l = 10 * part_size (cell_part l.context.arena.now.closed l.field) + 3

abbrev pub decreases-set_scripts : goal.decreases-set_scripts
decreases-set_scripts l = 10 * (part_size (cell_part l.context.arena.now.closed l.sup) + part_size (cell_part l.context.arena.now.closed l.sub)) + 4

abbrev pub decreases-set_under_limits : goal.decreases-set_under_limits
decreases-set_under_limits l = 10 * (part_size (cell_part l.context.arena.now.closed l.nucleus) + (part_size (cell_part l.context.arena.now.closed l.sup) + part_size (cell_part l.context.arena.now.closed l.sub))) + 5

abbrev pub decreases-set_accent_inside : goal.decreases-set_accent_inside
decreases-set_accent_inside l = 10 * (part_size (cell_part l.context.arena.now.closed l.sup) + part_size (cell_part l.context.arena.now.closed l.sub)) + 6

abbrev pub decreases-set_atom : goal.decreases-set_atom
decreases-set_atom l = 10 * element_size (atom_in l.context.arena.now.closed l.atom.now)

abbrev pub decreases-set_fraction : goal.decreases-set_fraction
decreases-set_fraction l = 10 * element_size (fraction_in l.context.arena.now.closed l.fields.now)

abbrev pub decreases-set_item : goal.decreases-set_item
decreases-set_item l = 10 * element_size (element_of_passed (passed_in l.context.arena.now.closed l.item.now l.joined)) + 1

abbrev pub invariant-first_pass_on-loop-front : goal.invariant-first_pass_on-loop-front
invariant-first_pass_on-loop-front l = KeptRest l.context.arena.now.closed l.rest × Going l.context.fonts.now l.fn.style (sequence_in l.context.arena.now.closed l.fn.list) l.current (rest_in l.context.arena.now.closed l.rest) l.items.items l.fn.pieces l.pieces

abbrev pub decreases-first_pass_on-loop-front : goal.decreases-first_pass_on-loop-front
decreases-first_pass_on-loop-front l = sequence_size (rest_in l.context.arena.now.closed l.rest)

abbrev pub decreases-set_symbol : goal.decreases-set_symbol
decreases-set_symbol l = 10 * (part_size (cell_part l.context.arena.now.closed l.sup) + part_size (cell_part l.context.arena.now.closed l.sub)) + 5
