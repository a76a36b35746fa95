use Rattle.std.proofs.Common.{map, ◌≡◌, ◌≤◌, ◌<◌, ◌+◌, ◌*◌, List, ◌∷◌, length, true}
use Rattle.mt_rules.specs.Sequence.{LeftElement}
use Rattle.mt_arena.specs.Arena.{Extends, Held, ItemHeld, as_grid, as_rows, as_sequence}
use Rattle.mt_formula.specs.declared.actions.table_form.TableStep.TheVariants.{NextCell}
use Rattle.mt_formula.specs.Atoms.{append}
use Rattle.mt_formula.specs.Groups.{segments}
use Rattle.mt_formula.specs.Lists.{items_before, then_give}
use Rattle.mt_formula.specs.Rows.{first_rows}
use Rattle.mt_formula.specs.Tables.{first_column, table_rows}
use Rattle.mt_formula.specs.Whole.{whole_cells, whole_rows}
use Rattle.mt_formula.specs.reading.Inside.{are_between}
use Rattle.mt_formula.specs.reading.Noads.{KeptLast, last_in}
use Rattle.mt_formula.specs.reading.Reads.{Adds, whole_run}
use Rattle.mt_formula.specs.reading.Rows.{rows_at}
use Rattle.mt_formula.specs.reading.Tables.{after_cells, after_rows, append_rows}
use Rattle.mt_formula.proofs.Below.{Below}
use Rattle.mt_formula.proofs.reading.list.+reading.Given as goal

abbrev pub decreases-read_run : goal.decreases-read_run
decreases-read_run g l = 20 * length l.tokens.now

abbrev pub decreases-read_denominator : goal.decreases-read_denominator
decreases-read_denominator g l = 20 * length l.tokens.now + 1

abbrev pub decreases-read_open : goal.decreases-read_open
decreases-read_open g l = 20 * length l.tokens.now + 2

abbrev pub decreases-read_list : goal.decreases-read_list
decreases-read_list g l = 20 * length l.tokens.now + 3

abbrev pub decreases-read_group : goal.decreases-read_group
decreases-read_group g l = 20 * length l.tokens.now + 4

abbrev pub decreases-read_nucleus : goal.decreases-read_nucleus
decreases-read_nucleus g l = 20 * length l.tokens.now + 5

abbrev pub decreases-read_branch : goal.decreases-read_branch
decreases-read_branch g l = 20 * length l.tokens.now + 5

abbrev pub decreases-read_field : goal.decreases-read_field
decreases-read_field g l = 20 * length l.tokens.now + 5

abbrev pub decreases-read_next_branch : goal.decreases-read_next_branch
decreases-read_next_branch g l = 20 * length l.tokens.now + 6

abbrev pub decreases-read_choice : goal.decreases-read_choice
decreases-read_choice g l = 20 * length l.tokens.now + 7

abbrev pub decreases-read_root : goal.decreases-read_root
decreases-read_root g l = 20 * length l.tokens.now + 6

abbrev pub decreases-read_segment : goal.decreases-read_segment
decreases-read_segment g l = 20 * length l.tokens.now + 3

abbrev pub decreases-read_left_right : goal.decreases-read_left_right
decreases-read_left_right g l = 20 * length l.tokens.now + 4

abbrev pub decreases-read_row : goal.decreases-read_row
decreases-read_row g l = 20 * length l.tokens.now + 4

abbrev pub decreases-read_rows : goal.decreases-read_rows
decreases-read_rows g l = 20 * length l.tokens.now + 5

abbrev pub decreases-read_cell : goal.decreases-read_cell
decreases-read_cell g l = 20 * length l.tokens.now + 3

abbrev pub decreases-read_cells : goal.decreases-read_cells
decreases-read_cells g l = 20 * length l.tokens.now + 4

abbrev pub decreases-read_table : goal.decreases-read_table
decreases-read_table g l = 20 * length l.tokens.now + 5

abbrev pub decreases-read_table_word : goal.decreases-read_table_word
decreases-read_table_word g l = 20 * length l.tokens.now + 6

abbrev pub decreases-read_after_primes : goal.decreases-read_after_primes
decreases-read_after_primes g l = 20 * length l.inside.now + 3

abbrev pub decreases-read_argument : goal.decreases-read_argument
decreases-read_argument g l = 20 * length l.argument.inside.now + 4

abbrev pub decreases-read_primes : goal.decreases-read_primes
decreases-read_primes g l = 20 * length l.tokens.now + 5

abbrev pub decreases-read_given : goal.decreases-read_given
decreases-read_given g l = 20 * length l.tokens.now + 10

abbrev pub invariant-read_run-loop-code : goal.invariant-read_run-loop-code
invariant-read_run-loop-code g l = record {
  so_far : (more : List Held) × Adds l.fn.arena l.arena more
      × Below (items_before (as_sequence more) (whole_run (g.R.Roles.codes l.grammar.roles.now) l.grammar.units l.group.level l.run.family (last_in l.arena.closed l.run.last) (map (g.R.Lexicon.token l.fn.grammar.roles.now) l.rest)))
      (whole_run (g.R.Roles.codes l.fn.grammar.roles.now) l.fn.grammar.units l.fn.group.level l.fn.group.family (last_in l.fn.arena.closed l.fn.run.last) (map (g.R.Lexicon.token l.fn.grammar.roles.now) l.tokens));
  last : KeptLast l.arena.closed l.run.last;
  falls : length l.rest ≤ length l.tokens;
}

abbrev pub decreases-read_run-loop-code : goal.decreases-read_run-loop-code
decreases-read_run-loop-code g l = length l.rest

abbrev pub invariant-read_left_right-loop-end : goal.invariant-read_left_right-loop-end
invariant-read_left_right-loop-end g l = record {
  front : Extends l.fn.arena.closed l.arena.closed;
  below : l.arena.below ≡ l.fn.arena.top ∷ l.fn.arena.below;
  so_far : (items : List Held) × (l.arena.top ≡ ItemHeld (LeftElement l.fn.left) ∷ items) × (are_between items ≡ true)
      × (segments (g.R.Roles.codes l.fn.grammar.roles.now) l.fn.grammar.units (whole_run (g.R.Roles.codes l.fn.grammar.roles.now) l.fn.grammar.units) l.fn.group.level l.fn.group.family (map (g.R.Lexicon.token l.fn.grammar.roles.now) l.tokens)
      ≡ then_give (segments (g.R.Roles.codes l.grammar.roles.now) l.grammar.units (whole_run (g.R.Roles.codes l.grammar.roles.now) l.grammar.units) l.group.level l.group.family (map (g.R.Lexicon.token l.fn.grammar.roles.now) l.rest)) (append (as_sequence items)));
  falls : length l.rest ≤ length l.tokens;
}

abbrev pub decreases-read_left_right-loop-end : goal.decreases-read_left_right-loop-end
decreases-read_left_right-loop-end g l = length l.rest

abbrev pub invariant-read_rows-loop-row : goal.invariant-read_rows-loop-row
invariant-read_rows-loop-row g l = record {
  front : Extends l.fn.arena.closed l.arena.closed;
  below : l.arena.below ≡ l.fn.arena.top ∷ l.fn.arena.below;
  is : first_rows (g.R.Roles.codes l.fn.grammar.roles.now) l.fn.grammar.units (whole_run (g.R.Roles.codes l.fn.grammar.roles.now) l.fn.grammar.units) (whole_rows (g.R.Roles.codes l.fn.grammar.roles.now) l.fn.grammar.units (whole_run (g.R.Roles.codes l.fn.grammar.roles.now) l.fn.grammar.units) l.fn.level) (map (g.R.Lexicon.token l.fn.grammar.roles.now) l.tokens)
      ≡ then_give (rows_at (whole_rows (g.R.Roles.codes l.grammar.roles.now) l.grammar.units (whole_run (g.R.Roles.codes l.grammar.roles.now) l.grammar.units) l.level) l.row.value (map (g.R.Lexicon.token l.fn.grammar.roles.now) l.row.rest.now)) (append_rows (as_rows l.arena.top));
  falls : length l.row.rest.now < length l.tokens;
}

abbrev pub decreases-read_rows-loop-row : goal.decreases-read_rows-loop-row
decreases-read_rows-loop-row g l = length l.row.rest.now

abbrev pub invariant-read_table_rows-loop-step : goal.invariant-read_table_rows-loop-step
invariant-read_table_rows-loop-step g l = record {
  front : Extends l.fn.arena.closed l.arena.closed;
  below : l.arena.below ≡ l.fn.arena.top ∷ l.fn.arena.below;
  is : table_rows (g.R.Roles.codes l.fn.grammar.roles.now) l.fn.grammar.units (whole_run (g.R.Roles.codes l.fn.grammar.roles.now) l.fn.grammar.units) l.fn.level l.fn.preamble (map (g.R.Lexicon.token l.fn.grammar.roles.now) l.tokens)
      ≡ after_rows (whole_cells (g.R.Roles.codes l.grammar.roles.now) l.grammar.units (whole_run (g.R.Roles.codes l.grammar.roles.now) l.grammar.units) l.level l.preamble) l.preamble (as_grid l.arena.top) l.step.value (map (g.R.Lexicon.token l.fn.grammar.roles.now) l.step.rest.now);
  falls : length l.step.rest.now ≤ length l.tokens;
}

abbrev pub decreases-read_table_rows-loop-step : goal.decreases-read_table_rows-loop-step
decreases-read_table_rows-loop-step g l = length l.step.rest.now

abbrev pub decreases-read_table_rows : goal.decreases-read_table_rows
decreases-read_table_rows g l = 20 * length l.tokens.now + 5

abbrev pub invariant-read_cells-loop-step : goal.invariant-read_cells-loop-step
invariant-read_cells-loop-step g l = record {
  front : Extends l.fn.arena.closed l.arena.closed;
  below : l.arena.below ≡ l.fn.arena.top ∷ l.fn.arena.below;
  is : whole_cells (g.R.Roles.codes l.fn.grammar.roles.now) l.fn.grammar.units (whole_run (g.R.Roles.codes l.fn.grammar.roles.now) l.fn.grammar.units) l.fn.level l.fn.preamble (first_column l.fn.preamble) (map (g.R.Lexicon.token l.fn.grammar.roles.now) l.tokens)
      ≡ after_cells (whole_cells (g.R.Roles.codes l.grammar.roles.now) l.grammar.units (whole_run (g.R.Roles.codes l.grammar.roles.now) l.grammar.units) l.level l.preamble) l.preamble (as_rows l.arena.top) (NextCell l.column) (map (g.R.Lexicon.token l.fn.grammar.roles.now) l.rest);
  falls : length l.rest ≤ length l.tokens;
}

abbrev pub decreases-read_cells-loop-step : goal.decreases-read_cells-loop-step
decreases-read_cells-loop-step g l = length l.rest
