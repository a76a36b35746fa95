use Rattle.std.proofs.Common.{◌≡◌, ◌+◌, ◌-◌, ◌*◌}
use Rattle.mt_arena.specs.Arena.{sequence_in, rows_in, grid_in, thing_end, cell_end}
use Rattle.mt_arena.specs.declared.thing.Thing.TheVariants.{Atom, Fraction, Choice}
use Rattle.mt_arena.proofs.Making.{after, rows_after, grid_after}
use Rattle.mt_arena.proofs.to_lists.+make.Given as goal

abbrev pub decreases-list_of : goal.decreases-list_of
decreases-list_of l = 5 * l.span.end

abbrev pub decreases-list_of-loop-at : goal.decreases-list_of-loop-at
decreases-list_of-loop-at l = l.span.end - l.at

abbrev pub invariant-list_of-loop-at : goal.invariant-list_of-loop-at
invariant-list_of-loop-at l = after l.items.items (sequence_in l.arena.closed (record { start = l.at; end = l.span.end })) ≡ sequence_in l.arena.closed l.span

abbrev pub decreases-rows_of : goal.decreases-rows_of
decreases-rows_of l = 5 * l.span.end

abbrev pub decreases-rows_of-loop-at : goal.decreases-rows_of-loop-at
decreases-rows_of-loop-at l = l.span.end - l.at

abbrev pub invariant-rows_of-loop-at : goal.invariant-rows_of-loop-at
invariant-rows_of-loop-at l = rows_after l.rows.items (rows_in l.arena.closed (record { start = l.at; end = l.span.end })) ≡ rows_in l.arena.closed l.span

abbrev pub decreases-table_of : goal.decreases-table_of
decreases-table_of l = 5 * l.span.end

abbrev pub decreases-table_of-loop-at : goal.decreases-table_of-loop-at
decreases-table_of-loop-at l = l.span.end - l.at

abbrev pub invariant-table_of-loop-at : goal.invariant-table_of-loop-at
invariant-table_of-loop-at l = grid_after l.rows.items (grid_in l.arena.closed (record { start = l.at; end = l.span.end })) ≡ grid_in l.arena.closed l.span

abbrev pub decreases-item_of : goal.decreases-item_of
decreases-item_of l = 5 * thing_end l.thing.now + 3

abbrev pub decreases-root_of : goal.decreases-root_of
decreases-root_of l = 5 * thing_end l.thing.now + 3

abbrev pub decreases-atom_of : goal.decreases-atom_of
decreases-atom_of l = 5 * thing_end (Atom l.noad) + 2

abbrev pub decreases-fraction_of : goal.decreases-fraction_of
decreases-fraction_of l = 5 * thing_end (Fraction l.fraction) + 2

abbrev pub decreases-choice_of : goal.decreases-choice_of
decreases-choice_of l = 5 * thing_end (Choice l.spans) + 2

abbrev pub decreases-field_of : goal.decreases-field_of
decreases-field_of l = 5 * cell_end l.cell + 1

abbrev pub decreases-row_of : goal.decreases-row_of
decreases-row_of l = 5 * thing_end l.thing.now + 3

abbrev pub decreases-cells_of : goal.decreases-cells_of
decreases-cells_of l = 5 * thing_end l.thing.now + 3
