use Rattle.std.proofs.Common.{map, [], ◌∷◌, ◌++◌, ◌≡◌, true, refl, sym, ap, ◌∙◌, subst, arith, rules, Fits, w64}
use Rattle.std.proofs.lemmas.Result.{err_from_is_err_and}
use Rattle.mt_arena.specs.Arena.{CellsHeld, Extends, ItemHeld, RowHeld, as_grid, as_rows, as_sequence, first_open, other_open, rows_in, sequence_in}
use Rattle.mt_arena.specs.declared.thing.Cell.TheVariants.{Sym}
use Rattle.mt_arena.proofs.Putting.{extends_more, extends_same, grid_lists, rows_lists}
use Rattle.mt_formula.specs.declared.actions.action.Action.TheVariants.{Script}
use Rattle.mt_formula.specs.declared.reading.given.Given.TheVariants as give
use Rattle.mt_formula.specs.declared.reading.stop.Stop.TheVariants.{Fault as AtFault}
use Rattle.mt_scan.specs.Parts.{Got}
use Rattle.mt_arena.specs.Keeping.{GridLists, RowsLists}
use Rattle.mt_rules.specs.Sequence.{LeftElement, MiddleElement, More, RightElement}
use Rattle.mt_formula.specs.Lists.{then_give}
use Rattle.mt_formula.proofs.Parting.{body_fails, choice_kept, degree_fails, closes_grows, items_grow, left_right_fails, left_right_is, primes_in, row_read, primes_alone, primes_closed, grows_more, primes_argument, rows_given, table_fails, table_is}
use Rattle.mt_formula.specs.reading.Inside.{are_inside}
use Rattle.mt_formula.specs.reading.Reads.{whole_run}
use Rattle.mt_formula.proofs.Arenas.{kept_last_later, list_field, span_lists}
use Rattle.mt_formula.specs.reading.Tables.{after_cells, after_rows}
use Rattle.mt_formula.proofs.Completing.{fraction_fails, fraction_lists, fraction_whole, head_fails, mid_inside, open_divides, open_ends, ran}
use Rattle.mt_formula.proofs.Rowing.{later_at_fault, row_pushed, rows_end, rows_left, rows_on, rows_start, rows_start_fails}
use Rattle.mt_formula.proofs.Tabling.{cell_reader, cells_on, cells_pushed, cells_start, ends_unless, row_of_cells_fails, table_end, table_on, table_start}
use Rattle.mt_formula.proofs.Bounding.{boundary_pushed, boundary_read, bounded_field, middle_between, segment_between, segment_joined, segments_end, segments_left, segments_on, segments_start}
use Rattle.mt_formula.proofs.Running.{action_fails, fault_same, given_fails, run_ends, run_on, run_on_symbol, run_start}
use Rattle.mt_formula.proofs.reading.list.+reading.Goals as goal

pub read_after_primes-returns-clause-is : goal.read_after_primes-returns-clause-is
read_after_primes-returns-clause-is g t c =
    let codes = g.R.Roles.codes c.args.grammar.roles.now in
    let token = g.R.Lexicon.token c.args.grammar.roles.now in (
      closes_grows c.args.arena.now c.begin_primes.new.arena c.read_open.new.arena c.close_list.new.arena c.in_ok-begin_primes.ensures.opens.closed c.in_ok-begin_primes.ensures.opens.below c.in_ok-read_open.ensures.is.front c.in_ok-read_open.ensures.is.below c.in_ok-close_list.ensures.closes,
      (
        (map token c.in_ok-read_open.field-0.now),
        primes_in codes c.args.grammar.units c.begin_primes.new.arena c.read_open.new.arena c.close_list.new.arena c.args.count c.args.group.level c.args.group.family c.prime_noad.result c.read_open.new.run.last c.in_ok-close_list.field-0 (map token c.args.inside.now) (map token c.in_ok-read_open.field-0.now)
            c.in_ok-begin_primes.ensures.is (rw (c.prime_noad.ensures) refl) c.in_ok-read_open.ensures.is c.in_ok-close_list.ensures.is,
      ),
    )

pub read_cell-push-requires-clause-lists : goal.read_cell-push-requires-clause-lists
read_cell-push-requires-clause-lists g t c = span_lists _ c.in_ok-span.span c.in_ok-span.ensures.kept

pub read_cells-loop-step-init : goal.read_cells-loop-step-init
read_cells-loop-step-init g t c =
    let codes = g.R.Roles.codes c.args.grammar.roles.now in
    let token = g.R.Lexicon.token c.args.grammar.roles.now in
    record {
      front = subst (Extends c.args.arena.now.closed) (sym c.in_ok-begin.ensures.closed) (extends_same c.args.arena.now.closed);
      below = c.in_ok-begin.ensures.below;
      is = rw (c.in_ok-begin.ensures.top, c.first_column-column.ensures) (cells_start codes c.args.grammar.units c.args.level c.args.preamble (map token c.args.tokens.now));
      falls = omega arith;
    }

pub read_cells-loop-step-preserved : goal.read_cells-loop-step-preserved
read_cells-loop-step-preserved g t c =
    let codes = g.R.Roles.codes c.args.grammar.roles.now in
    let token = g.R.Lexicon.token c.args.grammar.roles.now in
    record {
      front = extends_more _ _ _ c.loop-step.invariant.front c.in_ok-step.ensures.is.1.front;
      below = c.in_ok-step.ensures.is.1.below ∙ c.loop-step.invariant.below;
      is = c.loop-step.invariant.is ∙ cells_on codes c.args.grammar.units c.args.level c.args.preamble (as_rows c.loop-step.arena.top) c.loop-step.column (map token c.loop-step.rest.now) c.in_ok-step.ensures.is.0 c.in_ok-step.step.value (map token c.in_ok-step.step.rest.now) (c.in_ok-step.ensures.is.2 _) ∙ ap (λ rs. after_cells (cell_reader codes c.args.grammar.units c.args.level c.args.preamble) c.args.preamble rs c.in_ok-step.step.value (map token c.in_ok-step.step.rest.now)) (sym (row_pushed _ _ _ c.in_ok-step.ensures.is.1.top))
          ∙ ap (λ step. after_cells (cell_reader codes c.args.grammar.units c.args.level c.args.preamble) c.args.preamble (as_rows c.read_cell.new.arena.top) step (map token c.in_ok-step.step.rest.now)) c.in-NextCell.is;
      falls = omega (arith, c.in_ok-step.ensures.falls, c.loop-step.invariant.falls);
    }

pub read_cells-push-requires : goal.read_cells-push-requires
read_cells-push-requires g t c =
    record { within = c.in_ok-cells-in_default.ensures.within; lists = subst (λ hs. RowsLists (as_rows hs)) (sym c.in_ok-cells-in_default.ensures.is) (rows_lists _ c.in_ok-cells-in_default.ensures.lists) }

pub read_cells-returns-in_default : goal.read_cells-returns-in_default
read_cells-returns-in_default g t c =
    let codes = g.R.Roles.codes c.args.grammar.roles.now in
    let token = g.R.Lexicon.token c.args.grammar.roles.now in
    record {
      is = (
        rows_in c.close.new.self.closed c.in_ok-cells-in_default.cells,
        let g = items_grow c.args.arena.now c.read_cell.new.arena c.close.new.self (extends_more _ _ _ c.loop-step.invariant.front c.in_ok-step.ensures.is.1.front) (c.in_ok-step.ensures.is.1.below ∙ c.loop-step.invariant.below) c.in_ok-cells-in_default.ensures.closed c.in_ok-cells-in_default.ensures.top c.in_ok-cells-in_default.ensures.below in
            record { front = subst (Extends c.args.arena.now.closed) (sym c.in_ok-push-in_default.ensures.closed) g.front; top = c.in_ok-push-in_default.ensures.is ∙ ap (λ hs. hs ++ CellsHeld (rows_in c.close.new.self.closed c.in_ok-cells-in_default.cells) ∷ []) g.top; below = c.in_ok-push-in_default.ensures.below ∙ g.below },
        c.loop-step.invariant.is ∙ cells_on codes c.args.grammar.units c.args.level c.args.preamble (as_rows c.loop-step.arena.top) c.loop-step.column (map token c.loop-step.rest.now) c.in_ok-step.ensures.is.0 c.in_ok-step.step.value (map token c.in_ok-step.step.rest.now) (c.in_ok-step.ensures.is.2 _)
            ∙ ap (λ rs. after_cells (cell_reader codes c.args.grammar.units c.args.level c.args.preamble) c.args.preamble rs c.in_ok-step.step.value (map token c.in_ok-step.step.rest.now)) (sym (ap as_rows c.in_ok-cells-in_default.ensures.is ∙ row_pushed _ _ _ c.in_ok-step.ensures.is.1.top)),
      );
      ends = ends_unless c.in_ok-step.step.value c.in_default.not-NextCell;
      falls = omega (arith, c.in_ok-step.ensures.falls, c.loop-step.invariant.falls);
    }

pub read_given-returns-in_err-rows-in-Rows-clause-is : goal.read_given-returns-in_err-rows-in-Rows-clause-is
read_given-returns-in_err-rows-in-Rows-clause-is g t c =
    let codes = g.R.Roles.codes c.args.grammar.roles.now in
    let token = g.R.Lexicon.token c.args.grammar.roles.now in
    let p = err_from_is_err_and c.from_residual-in_err-rows-in-Rows.result c.from_residual-in_err-rows-in-Rows.ensures.1 in
    rw (p.1, p.2, c.in-Rows.is) (rows_given codes c.args.grammar.units c.args.group.level c.args.group.family (map token c.args.tokens.now) _ c.in_err-rows-in-Rows.ensures.is)

pub read_given-returns-in_err-list-in-LeftRight-clause-is : goal.read_given-returns-in_err-list-in-LeftRight-clause-is
read_given-returns-in_err-list-in-LeftRight-clause-is g t c =
    let codes = g.R.Roles.codes c.args.grammar.roles.now in
    let token = g.R.Lexicon.token c.args.grammar.roles.now in
    let p = err_from_is_err_and c.from_residual-in_err-list-in-LeftRight.result c.from_residual-in_err-list-in-LeftRight.ensures.1 in
    rw (p.1, p.2, c.in-LeftRight.is) (left_right_fails codes c.args.grammar.units c.args.group.level c.args.group.family c.in-LeftRight.left (map token c.args.tokens.now) _
    (rw (c.inside.ensures.level, c.inside.ensures.family) at c.in_err-list-in-LeftRight.ensures.is))

pub read_given-returns-in_ok-list-in-Prime-clause-kept : goal.read_given-returns-in_ok-list-in-Prime-clause-kept
read_given-returns-in_ok-list-in-Prime-clause-kept g t c = list_field _ c.in_ok-list-in-Prime.list.value c.in_ok-list-in-Prime.ensures.kept

pub read_given-returns-in_ok-list-in-LeftRight-clause-is : goal.read_given-returns-in_ok-list-in-LeftRight-clause-is
read_given-returns-in_ok-list-in-LeftRight-clause-is g t c =
    let codes = g.R.Roles.codes c.args.grammar.roles.now in
    let token = g.R.Lexicon.token c.args.grammar.roles.now in
    (c.in_ok-list-in-LeftRight.ensures.is.0, rw (c.in-LeftRight.is, c.plain_noad-in-LeftRight.ensures) (left_right_is codes c.args.grammar.units c.args.group.level c.args.group.family c.in-LeftRight.left (map token c.args.tokens.now) _ _ (rw (c.inside.ensures.level, c.inside.ensures.family) at c.in_ok-list-in-LeftRight.ensures.is.1)))

pub read_given-returns-in_ok-plain_given-in_default-clause-kept : goal.read_given-returns-in_ok-plain_given-in_default-clause-kept
read_given-returns-in_ok-plain_given-in_default-clause-kept g t c = c.in_ok-plain_given-in_default.ensures.kept c.args.arena.now.closed

pub read_left_right-loop-end-init : goal.read_left_right-loop-end-init
read_left_right-loop-end-init g t c =
    let codes = g.R.Roles.codes c.args.grammar.roles.now in
    let token = g.R.Lexicon.token c.args.grammar.roles.now in
    record {
      front = subst (Extends c.args.arena.now.closed) (sym (c.in_ok-push.ensures.closed ∙ c.in_ok-begin.ensures.closed)) (extends_same c.args.arena.now.closed);
      below = c.in_ok-push.ensures.below ∙ c.in_ok-begin.ensures.below;
      so_far = ([], c.in_ok-push.ensures.is ∙ ap (λ hs. hs ++ ItemHeld (LeftElement c.args.left) ∷ []) c.in_ok-begin.ensures.top, refl, segments_start codes c.args.grammar.units c.args.group.level c.args.group.family (map token c.args.tokens.now));
      falls = omega arith;
    }

pub read_left_right-loop-end-preserved : goal.read_left_right-loop-end-preserved
read_left_right-loop-end-preserved g t c =
    let codes = g.R.Roles.codes c.args.grammar.roles.now in
    let token = g.R.Lexicon.token c.args.grammar.roles.now in
    let so_far = c.loop-end.invariant.so_far in
    let read = c.in_ok-end.ensures.is in
    record {
      front = extends_more _ _ _ c.loop-end.invariant.front (subst (Extends c.loop-end.arena.closed) (sym c.in_ok-push-2.ensures.closed) read.adds.front);
      below = c.in_ok-push-2.ensures.below ∙ read.adds.below ∙ c.loop-end.invariant.below;
      so_far = (
        (so_far.0 ++ read.more) ++ ItemHeld (MiddleElement c.in_ok-delim.delim.value) ∷ [],
        boundary_pushed c.args.left _ so_far.0 read.more _ _ _ so_far.1 read.adds.top c.in_ok-push-2.ensures.is,
        middle_between so_far.0 read.more c.in_ok-delim.delim.value so_far.2 read.adds.inside,
        so_far.3 ∙ segments_on codes c.args.grammar.units c.args.group.level c.args.group.family (as_sequence so_far.0) (map token c.loop-end.rest.now) (map token c.in_ok-end.end.now) (as_sequence read.more) read.is c.in_ok-delim.delim.value (map token c.in_ok-delim.delim.rest.now) (rw (c.after_first.ensures.is) at c.in_ok-delim.ensures.is) (sym c.is_at_middle.ensures ∙ c.if-is_at_middle.true)
            ∙ ap (λ s. segments_left codes c.args.grammar.units c.args.group.level c.args.group.family s (map token c.in_ok-delim.delim.rest.now)) (boundary_read so_far.0 read.more (MiddleElement c.in_ok-delim.delim.value)),
      );
      falls = omega (arith, c.in_ok-delim.ensures.falls, c.after_first.ensures.falls, c.in_ok-end.ensures.falls, c.loop-end.invariant.falls);
    }

pub read_left_right-returns-else-is_at_middle-clause-is : goal.read_left_right-returns-else-is_at_middle-clause-is
read_left_right-returns-else-is_at_middle-clause-is g t c =
    let codes = g.R.Roles.codes c.args.grammar.roles.now in
    let token = g.R.Lexicon.token c.args.grammar.roles.now in
    let so_far = c.loop-end.invariant.so_far in
    let read = c.in_ok-end.ensures.is in
    let bounds = boundary_pushed c.args.left _ so_far.0 read.more _ _ _ so_far.1 read.adds.top c.in_ok-push-3.ensures.is in (
      items_grow c.args.arena.now c.push-else-is_at_middle.new.self c.close.new.self (extends_more _ _ _ c.loop-end.invariant.front (subst (Extends c.loop-end.arena.closed) (sym c.in_ok-push-3.ensures.closed) read.adds.front))
          (c.in_ok-push-3.ensures.below ∙ read.adds.below ∙ c.loop-end.invariant.below) c.in_ok-close.ensures.closed c.in_ok-close.ensures.top c.in_ok-close.ensures.below,
      ap (λ r. then_give r (λ inner. More (LeftElement c.args.left) inner))
          (so_far.3 ∙ segments_end codes c.args.grammar.units c.args.group.level c.args.group.family (as_sequence so_far.0) (map token c.loop-end.rest.now) (map token c.in_ok-end.end.now) (as_sequence read.more) read.is c.in_ok-delim.delim.value (map token c.in_ok-delim.delim.rest.now) (rw (c.after_first.ensures.is) at c.in_ok-delim.ensures.is) (sym c.is_at_middle.ensures ∙ c.if-is_at_middle.false)
          ∙ ap (λ s. Got s (map token c.in_ok-delim.delim.rest.now)) (boundary_read so_far.0 read.more (RightElement c.in_ok-delim.delim.value)))
          ∙ ap (λ hs. Got (as_sequence hs) (map token c.in_ok-delim.delim.rest.now)) (sym (c.in_ok-close.ensures.is ∙ bounds)),
    )

pub read_left_right-returns-else-is_at_middle-clause-kept : goal.read_left_right-returns-else-is_at_middle-clause-kept
read_left_right-returns-else-is_at_middle-clause-kept g t c =
    let so_far = c.loop-end.invariant.so_far in
    let read = c.in_ok-end.ensures.is in
    bounded_field c.close.new.self.closed _ (so_far.0 ++ read.more) c.in_ok-close.field-0 c.args.left c.in_ok-delim.delim.value c.in_ok-close.ensures.within c.in_ok-close.ensures.lists c.in_ok-close.ensures.is
    (boundary_pushed c.args.left _ so_far.0 read.more _ _ _ so_far.1 read.adds.top c.in_ok-push-3.ensures.is) (segment_between so_far.0 read.more so_far.2 read.adds.inside)

pub read_primes-returns-in_err-argument-in-Some-clause-is : goal.read_primes-returns-in_err-argument-in-Some-clause-is
read_primes-returns-in_err-argument-in-Some-clause-is g t c =
    let codes = g.R.Roles.codes c.args.grammar.roles.now in
    let token = g.R.Lexicon.token c.args.grammar.roles.now in
    let p = err_from_is_err_and c.from_residual.result c.from_residual.ensures.1 in
    let f : Fits w64 c.in_err-argument-in-Some.field-0.0.left = search rules in
    rw (p.1, p.2) (fault_same (AtFault c.in_err-argument-in-Some.field-0.0) _ _ (primes_argument codes c.args.grammar.units c.args.group.level c.args.group.family (map token c.args.tokens.now) (map token c.primes-more.result.rest.now) (map token c.in-Some.after.now) c.primes-more.result.value c.primes-more.ensures.count c.primes-more.ensures.rest (rw (c.in-Some.is) at c.after_superscript.ensures.is))
    (c.in_err-argument-in-Some.field-0.0.left, c.in_err-argument-in-Some.ensures.is c.args.grammar.units (whole_run codes c.args.grammar.units) c.primes-more.result.value, omega (arith, f)))

pub read_primes-returns-in_ok-close_list-in-None-clause-is : goal.read_primes-returns-in_ok-close_list-in-None-clause-is
read_primes-returns-in_ok-close_list-in-None-clause-is g t c =
    let codes = g.R.Roles.codes c.args.grammar.roles.now in
    let token = g.R.Lexicon.token c.args.grammar.roles.now in (
      closes_grows c.args.arena.now c.begin_primes.new.arena c.begin_primes.new.arena c.close_list.new.arena c.in_ok-begin_primes-in-None.ensures.opens.closed c.in_ok-begin_primes-in-None.ensures.opens.below (extends_same _) refl c.in_ok-close_list-in-None.ensures.closes,
      primes_alone codes c.args.grammar.units c.args.group.level c.args.group.family (map token c.args.tokens.now) (map token c.primes-more.result.rest.now) c.primes-more.result.value c.primes-more.ensures.count c.primes-more.ensures.rest (rw (c.in-None.is) at c.after_superscript.ensures.is)
          ∙ ap (λ s. Got s (map token c.primes-more.result.rest.now)) (primes_closed c.begin_primes.new.arena c.primes-more.result.value c.prime_noad.result _ c.in_ok-begin_primes-in-None.ensures.is (rw (c.prime_noad.ensures) refl) c.in_ok-close_list-in-None.ensures.is),
    )

pub read_row-push-requires-clause-lists : goal.read_row-push-requires-clause-lists
read_row-push-requires-clause-lists g t c = span_lists _ c.in_ok-span.span c.in_ok-span.ensures.kept

pub read_row-returns-clause-is : goal.read_row-returns-clause-is
read_row-returns-clause-is g t c =
    let codes = g.R.Roles.codes c.args.grammar.roles.now in
    let token = g.R.Lexicon.token c.args.grammar.roles.now in (
      _,
      record {
        front = extends_more c.args.arena.now.closed c.read_list.new.arena.closed c.push.new.self.closed c.in_ok-list.ensures.is.0.front (subst (Extends c.read_list.new.arena.closed) (sym c.in_ok-push.ensures.closed) c.in_ok-span.ensures.grows.front);
        top = c.in_ok-push.ensures.is ∙ ap (λ hs. hs ++ RowHeld (sequence_in c.span_of.new.arena.closed c.in_ok-span.span) ∷ []) (c.in_ok-span.ensures.grows.top ∙ c.in_ok-list.ensures.is.0.top);
        below = c.in_ok-push.ensures.below ∙ c.in_ok-span.ensures.grows.below ∙ c.in_ok-list.ensures.is.0.below;
      },
      row_read codes c.args.grammar.units c.args.level (map token c.args.tokens.now) (map token c.in_ok-inside.inside.now) _ (map token c.in_ok-rest.rest.now) _ c.in_ok-inside.ensures.is
          (rw (c.without_family-group.ensures.level, c.without_family-group.ensures.family) at c.in_ok-list.ensures.is.1 ∙ ap (λ s. Got s (map token c.in_ok-list.list.rest.now)) (sym c.in_ok-span.ensures.is)) (rw (c.after_first.ensures.is) at c.in_ok-rest.ensures.is),
    )

pub read_rows-returns-in_err-row-clause-is : goal.read_rows-returns-in_err-row-clause-is
read_rows-returns-in_err-row-clause-is g t c =
    let codes = g.R.Roles.codes c.args.grammar.roles.now in
    let token = g.R.Lexicon.token c.args.grammar.roles.now in
    let p = err_from_is_err_and c.from_residual-in_err-row.result c.from_residual-in_err-row.ensures.1 in
    let f : Fits w64 c.in_err-row.field-0.0.left = search rules in
    rw (p.1, p.2) (rows_start_fails codes c.args.grammar.units c.args.level (map token c.args.tokens.now) (AtFault c.in_err-row.field-0.0) (c.in_err-row.field-0.0.left, c.in_err-row.ensures.is, omega (arith, f)))

pub read_rows-loop-row-init : goal.read_rows-loop-row-init
read_rows-loop-row-init g t c =
    let codes = g.R.Roles.codes c.args.grammar.roles.now in
    let token = g.R.Lexicon.token c.args.grammar.roles.now in
    record {
      front = subst (Extends c.args.arena.now.closed) (sym c.in_ok-begin.ensures.closed) (extends_same c.args.arena.now.closed);
      below = c.in_ok-begin.ensures.below;
      is = rw (c.in_ok-begin.ensures.top) (rows_start codes c.args.grammar.units c.args.level (map token c.args.tokens.now) (map token c.in_ok-row.row.rest.now) c.in_ok-row.row.value c.in_ok-row.ensures.is);
      falls = c.in_ok-row.ensures.falls;
    }

pub read_rows-returns-in_err-row-2-clause-is : goal.read_rows-returns-in_err-row-2-clause-is
read_rows-returns-in_err-row-2-clause-is g t c =
    let codes = g.R.Roles.codes c.args.grammar.roles.now in
    let token = g.R.Lexicon.token c.args.grammar.roles.now in
    let p = err_from_is_err_and c.from_residual-in_err-row-2.result c.from_residual-in_err-row-2.ensures.1 in
    let f : Fits w64 c.in_err-row-2.field-0.0.left = search rules in
    rw (p.1, p.2) (fault_same (AtFault c.in_err-row-2.field-0.0) _ _ c.loop-row.invariant.is (later_at_fault codes c.args.grammar.units c.args.level (as_rows c.loop-row.arena.top) c.loop-row.row.value (map token c.loop-row.row.rest.now) (map token c.in_ok-rest.rest.now) c.in_ok-rest.ensures.is.0 c.loop-row-test.true c.in_ok-rest.ensures.is.2 (AtFault c.in_err-row-2.field-0.0)
    (c.in_err-row-2.field-0.0.left, c.in_err-row-2.ensures.is, omega (arith, f))))

pub read_rows-loop-row-preserved : goal.read_rows-loop-row-preserved
read_rows-loop-row-preserved g t c =
    let codes = g.R.Roles.codes c.args.grammar.roles.now in
    let token = g.R.Lexicon.token c.args.grammar.roles.now in
    record {
      front = extends_more _ _ _ c.loop-row.invariant.front c.in_ok-rest.ensures.is.1.front;
      below = c.in_ok-rest.ensures.is.1.below ∙ c.loop-row.invariant.below;
      is = c.loop-row.invariant.is ∙ rows_on codes c.args.grammar.units c.args.level (as_rows c.loop-row.arena.top) c.loop-row.row.value (map token c.loop-row.row.rest.now) (map token c.in_ok-rest.rest.now) c.in_ok-rest.ensures.is.0 c.loop-row-test.true c.in_ok-rest.ensures.is.2 c.in_ok-row-2.row.value (map token c.in_ok-row-2.row.rest.now) c.in_ok-row-2.ensures.is ∙ ap (λ rs. rows_left codes c.args.grammar.units c.args.level rs c.in_ok-row-2.row.value (map token c.in_ok-row-2.row.rest.now)) (sym (row_pushed _ _ _ c.in_ok-rest.ensures.is.1.top));
      falls = omega (arith, c.in_ok-row-2.ensures.falls, c.in_ok-rest.ensures.falls, c.loop-row.invariant.falls);
    }

pub read_rows-returns-clause-is : goal.read_rows-returns-clause-is
read_rows-returns-clause-is g t c =
    let codes = g.R.Roles.codes c.args.grammar.roles.now in
    let token = g.R.Lexicon.token c.args.grammar.roles.now in (
      items_grow c.args.arena.now c.loop-row.arena c.close.new.self c.loop-row.invariant.front c.loop-row.invariant.below c.in_ok-close.ensures.closed c.in_ok-close.ensures.top c.in_ok-close.ensures.below,
      c.loop-row.invariant.is ∙ rows_end codes c.args.grammar.units c.args.level (as_rows c.loop-row.arena.top) c.loop-row.row.value (map token c.loop-row.row.rest.now) c.loop-row-test.false ∙ ap (λ hs. Got (as_rows hs) (map token c.loop-row.row.rest.now)) (sym c.in_ok-close.ensures.is),
    )

pub read_rows-returns-clause-lists : goal.read_rows-returns-clause-lists
read_rows-returns-clause-lists g t c = subst (λ hs. RowsLists (as_rows hs)) (sym c.in_ok-close.ensures.is) (rows_lists _ c.in_ok-close.ensures.lists)

pub read_run-loop-code-init : goal.read_run-loop-code-init
read_run-loop-code-init g t c =
    let codes = g.R.Roles.codes c.args.grammar.roles.now in
    let token = g.R.Lexicon.token c.args.grammar.roles.now in
    record {
      so_far = run_start codes c.args.grammar.units c.args.group.level _ c.args.arena.now (record { last = c.args.run.now.last; family = c.args.group.family }) (map token c.args.tokens.now) refl;
      last = c.requires;
      falls = omega arith;
    }

pub read_run-loop-code-preserved-in-Some : goal.read_run-loop-code-preserved-in-Some
read_run-loop-code-preserved-in-Some g t c =
    let codes = g.R.Roles.codes c.args.grammar.roles.now in
    let token = g.R.Lexicon.token c.args.grammar.roles.now in
    record {
      so_far = rw (c.after_first-rest.ensures.is) (run_on_symbol codes c.args.grammar.units c.args.group.level _ c.args.arena.now c.loop-code.arena c.put_symbol.new.arena c.loop-code.run c.put_symbol.new.run (map token c.loop-code.rest.now) c.in-Some.code c.loop-code.invariant.so_far
          (sym c.front_code.ensures ∙ c.in-Some.is) c.loop-code.invariant.last c.in_ok-put_symbol.ensures.is);
      last = c.in_ok-put_symbol.ensures.last;
      falls = omega (arith, c.after_first-rest.ensures.falls, c.loop-code.invariant.falls);
    }

pub read_run-returns-in_err-action-clause-is : goal.read_run-returns-in_err-action-clause-is
read_run-returns-in_err-action-clause-is g t c =
    let codes = g.R.Roles.codes c.args.grammar.roles.now in
    let token = g.R.Lexicon.token c.args.grammar.roles.now in
    let p = err_from_is_err_and c.from_residual-in_err-action.result c.from_residual-in_err-action.ensures.1 in
    let f : Fits w64 c.in_err-action.field-0.0.left = search rules in
    rw (p.1, p.2) (action_fails codes c.args.grammar.units c.args.group.level _ c.args.arena.now c.loop-code.arena c.loop-code.run (map token c.loop-code.rest.now) c.in_err-action.field-0.0 c.loop-code.invariant.so_far
    (rw (c.with_family-here.ensures.level, c.with_family-here.ensures.family) at (c.in_err-action.ensures.is c.loop-code.arena.closed)) (omega (arith, f)))

pub read_run-returns-in-Stop-clause-is : goal.read_run-returns-in-Stop-clause-is
read_run-returns-in-Stop-clause-is g t c =
    let codes = g.R.Roles.codes c.args.grammar.roles.now in
    let token = g.R.Lexicon.token c.args.grammar.roles.now in
    run_ends codes c.args.grammar.units c.args.group.level _ c.args.arena.now c.loop-code.arena c.loop-code.run (map token c.loop-code.rest.now) _ c.in_ok-action.action.value c.loop-code.invariant.so_far
    (rw (c.with_family-here.ensures.level, c.with_family-here.ensures.family) at (c.in_ok-action.ensures.is c.loop-code.arena.closed)) c.in-Stop.is

pub read_run-returns-in_err-given : goal.read_run-returns-in_err-given
read_run-returns-in_err-given g t c =
    let codes = g.R.Roles.codes c.args.grammar.roles.now in
    let token = g.R.Lexicon.token c.args.grammar.roles.now in
    let p = err_from_is_err_and c.from_residual-in_err-given.result c.from_residual-in_err-given.ensures.1 in
    rw (p.1, p.2) (record {
      is = given_fails codes c.args.grammar.units c.args.group.level _ c.args.arena.now c.loop-code.arena c.loop-code.run (map token c.loop-code.rest.now) _ c.in_ok-action.action.value c.loop-code.invariant.so_far
          (rw (c.with_family-here.ensures.level, c.with_family-here.ensures.family) at (c.in_ok-action.ensures.is c.loop-code.arena.closed)) _
          (rw (c.with_family-here.ensures.level, c.with_family-here.ensures.family) at c.in_err-given.ensures.is);
      last = tt;
      falls = tt;
    })

pub read_run-put_given-requires-in-loop-code : goal.read_run-put_given-requires-in-loop-code
read_run-put_given-requires-in-loop-code g t c =
    record {
      last = kept_last_later _ _ c.loop-code.run.last c.in_ok-given.ensures.is.0.front c.loop-code.invariant.last;
      given = c.in_ok-given.ensures.kept;
    }

pub read_run-loop-code-preserved-in-Some-symbol_script : goal.read_run-loop-code-preserved-in-Some-symbol_script
read_run-loop-code-preserved-in-Some-symbol_script g t c =
    let codes = g.R.Roles.codes c.args.grammar.roles.now in
    let token = g.R.Lexicon.token c.args.grammar.roles.now in
    let script = c.in-Some-symbol_script.script in
    record {
      so_far = run_on codes c.args.grammar.units c.args.group.level _ c.args.arena.now c.loop-code.arena c.loop-code.run (map token c.loop-code.rest.now) (map token script.rest.now) (Script script.value.side script.value.symbol) c.loop-code.invariant.so_far
          (rw (c.with_family-here.ensures.level, c.with_family-here.ensures.family) at ((rw (c.in-Some-symbol_script.is) at c.symbol_script.ensures.is) c.loop-code.arena.closed c.args.grammar.units)) c.loop-code.arena c.put_given.new.arena c.put_given.new.run (give.Script script.value.side (Sym script.value.symbol)) (map token script.rest.now)
          c.loop-code.invariant.last (record { front = extends_same c.loop-code.arena.closed; top = refl; below = refl }) refl c.in_ok-put_given.ensures.is;
      last = c.in_ok-put_given.ensures.last;
      falls = omega (arith, (rw (c.in-Some-symbol_script.is) at c.symbol_script.ensures.falls), c.loop-code.invariant.falls);
    }

pub read_run-loop-code-preserved : goal.read_run-loop-code-preserved
read_run-loop-code-preserved g t c =
    let codes = g.R.Roles.codes c.args.grammar.roles.now in
    let token = g.R.Lexicon.token c.args.grammar.roles.now in
    record {
      so_far = run_on codes c.args.grammar.units c.args.group.level _ c.args.arena.now c.loop-code.arena c.loop-code.run (map token c.loop-code.rest.now) _ c.in_ok-action.action.value c.loop-code.invariant.so_far
          (rw (c.with_family-here.ensures.level, c.with_family-here.ensures.family) at (c.in_ok-action.ensures.is c.loop-code.arena.closed)) _ _ c.put_given-in-loop-code.new.run c.in_ok-given.given.value _ c.loop-code.invariant.last c.in_ok-given.ensures.is.0
          (rw (c.with_family-here.ensures.level, c.with_family-here.ensures.family) at c.in_ok-given.ensures.is.1) c.in_ok-put_given-2.ensures.is;
      last = c.in_ok-put_given-2.ensures.last;
      falls = omega (arith, c.in_ok-given.ensures.falls, c.in_ok-action.ensures.falls, c.loop-code.invariant.falls);
    }

pub read_table_rows-loop-step-init : goal.read_table_rows-loop-step-init
read_table_rows-loop-step-init g t c =
    let codes = g.R.Roles.codes c.args.grammar.roles.now in
    let token = g.R.Lexicon.token c.args.grammar.roles.now in
    record {
      front = subst (Extends c.args.arena.now.closed) (sym c.in_ok-begin.ensures.closed) (extends_same c.args.arena.now.closed);
      below = c.in_ok-begin.ensures.below;
      is = rw (c.in_ok-begin.ensures.top) (table_start codes c.args.grammar.units c.args.level c.args.preamble (map token c.args.tokens.now) _ c.row_or_end-step.result.value (rw (c.after_spaces.ensures.is) at c.row_or_end-step.ensures.is));
      falls = omega (arith, c.row_or_end-step.ensures.falls, c.after_spaces.ensures.falls);
    }

pub read_table_rows-returns-in_err-step-clause-is : goal.read_table_rows-returns-in_err-step-clause-is
read_table_rows-returns-in_err-step-clause-is g t c =
    let codes = g.R.Roles.codes c.args.grammar.roles.now in
    let token = g.R.Lexicon.token c.args.grammar.roles.now in
    let p = err_from_is_err_and c.from_residual-in_err-step.result c.from_residual-in_err-step.ensures.1 in
    rw (p.1, p.2) (fault_same c.in_err-step.field-0.0 _ _ c.loop-step.invariant.is (row_of_cells_fails codes c.args.grammar.units c.args.level c.args.preamble (as_grid c.loop-step.arena.top) c.loop-step.step.value (map token c.loop-step.step.rest.now) c.in-NextRow.is c.in_err-step.field-0.0 c.in_err-step.ensures.is))

pub read_table_rows-loop-step-preserved : goal.read_table_rows-loop-step-preserved
read_table_rows-loop-step-preserved g t c =
    let codes = g.R.Roles.codes c.args.grammar.roles.now in
    let token = g.R.Lexicon.token c.args.grammar.roles.now in
    record {
      front = extends_more _ _ _ c.loop-step.invariant.front c.in_ok-step.ensures.is.1.front;
      below = c.in_ok-step.ensures.is.1.below ∙ c.loop-step.invariant.below;
      is = c.loop-step.invariant.is ∙ table_on codes c.args.grammar.units c.args.level c.args.preamble (as_grid c.loop-step.arena.top) c.loop-step.step.value (map token c.loop-step.step.rest.now) c.in-NextRow.is c.in_ok-step.ensures.is.0 c.in_ok-step.step.value (map token c.in_ok-step.step.rest.now) c.in_ok-step.ensures.ends c.in_ok-step.ensures.is.2 ∙ ap (λ g. after_rows (cell_reader codes c.args.grammar.units c.args.level c.args.preamble) c.args.preamble g c.in_ok-step.step.value (map token c.in_ok-step.step.rest.now)) (sym (cells_pushed _ _ _ c.in_ok-step.ensures.is.1.top));
      falls = omega (arith, c.in_ok-step.ensures.falls, c.loop-step.invariant.falls);
    }

pub read_table_rows-returns : goal.read_table_rows-returns
read_table_rows-returns g t c =
    let codes = g.R.Roles.codes c.args.grammar.roles.now in
    let token = g.R.Lexicon.token c.args.grammar.roles.now in
    record {
      is = (
        items_grow c.args.arena.now c.loop-step.arena c.close.new.self c.loop-step.invariant.front c.loop-step.invariant.below c.in_ok-close.ensures.closed c.in_ok-close.ensures.top c.in_ok-close.ensures.below,
        c.loop-step.invariant.is ∙ table_end codes c.args.grammar.units c.args.level c.args.preamble (as_grid c.loop-step.arena.top) c.loop-step.step.value (map token c.loop-step.step.rest.now) c.in_default.not-NextRow ∙ ap (λ hs. Got (as_grid hs) (map token c.loop-step.step.rest.now)) (sym c.in_ok-close.ensures.is),
      );
      within = c.in_ok-close.ensures.within;
      lists = subst (λ hs. GridLists (as_grid hs)) (sym c.in_ok-close.ensures.is) (grid_lists _ c.in_ok-close.ensures.lists);
      falls = c.loop-step.invariant.falls;
    }

pub read_table_word-returns-in_err-rows-clause-is : goal.read_table_word-returns-in_err-rows-clause-is
read_table_word-returns-in_err-rows-clause-is g t c =
    let codes = g.R.Roles.codes c.args.grammar.roles.now in
    let token = g.R.Lexicon.token c.args.grammar.roles.now in
    let p = err_from_is_err_and c.from_residual.result c.from_residual.ensures.1 in
    rw (p.1, p.2) (table_fails codes c.args.grammar.units c.args.form c.args.group.level c.brace_level-level.result (map token c.args.tokens.now) _ c.brace_level-level.ensures (rw (c.preamble_of.ensures) at c.in_err-rows.ensures.is))

pub read_table_word-returns-clause-is : goal.read_table_word-returns-clause-is
read_table_word-returns-clause-is g t c =
    let codes = g.R.Roles.codes c.args.grammar.roles.now in
    let token = g.R.Lexicon.token c.args.grammar.roles.now in
    (grows_more c.args.arena.now c.read_table.new.arena c.table_given.new.arena c.in_ok-rows.ensures.is.0 c.in_ok-table_given.ensures.grows, table_is codes c.args.grammar.units c.args.form c.args.group.level c.brace_level-level.result (map token c.args.tokens.now) _ _ _ c.brace_level-level.ensures (rw (c.preamble_of.ensures) at c.in_ok-rows.ensures.is.1) c.in_ok-table_given.ensures.is)

pub read_open-returns-in-Ends-clause-is : goal.read_open-returns-in-Ends-clause-is
read_open-returns-in-Ends-clause-is g t c =
    let codes = g.R.Roles.codes c.args.grammar.roles.now in
    let token = g.R.Lexicon.token c.args.grammar.roles.now in
    open_ends codes c.args.grammar.units c.args.ending c.args.group.level c.args.group.family c.args.run.now.last c.args.arena.now c.read_run.new.arena c.read_run.new.run (map token c.args.tokens.now) (map token c.in_ok-rest.rest.now) c.in_ok-rest.ensures.is c.requires.inside
    ((rw (c.in-Ends.is) at c.in_ok-list_stop.ensures) c.args.grammar.units (whole_run codes c.args.grammar.units) c.args.group.level (ran codes c.args.grammar.units c.args.ending c.args.group.level c.args.group.family c.args.run.now.last c.args.arena.now c.read_run.new.arena c.read_run.new.run (map token c.args.tokens.now) (map token c.in_ok-rest.rest.now) c.in_ok-rest.ensures.is))

pub read_open-returns-in_err-head-in-Divides-clause-is : goal.read_open-returns-in_err-head-in-Divides-clause-is
read_open-returns-in_err-head-in-Divides-clause-is g t c =
    let codes = g.R.Roles.codes c.args.grammar.roles.now in
    let token = g.R.Lexicon.token c.args.grammar.roles.now in
    let p = err_from_is_err_and c.from_residual-in_err-head-in-Divides.result c.from_residual-in_err-head-in-Divides.ensures.1 in
    let f : Fits w64 c.in_err-head-in-Divides.field-0.0.left = search rules in
    rw (p.1, p.2) (head_fails codes c.args.grammar.units c.args.ending c.args.group.level c.args.group.family c.args.run.now.last c.args.arena.now c.read_run.new.arena c.read_run.new.run (map token c.args.tokens.now) (map token c.in_ok-rest.rest.now) c.in_ok-rest.ensures.is c.in-Divides.delims c.in-Divides.bar
    ((rw (c.in-Divides.is) at c.in_ok-list_stop.ensures) c.args.grammar.units (whole_run codes c.args.grammar.units) c.args.group.level (ran codes c.args.grammar.units c.args.ending c.args.group.level c.args.group.family c.args.run.now.last c.args.arena.now c.read_run.new.arena c.read_run.new.run (map token c.args.tokens.now) (map token c.in_ok-rest.rest.now) c.in_ok-rest.ensures.is)) (AtFault c.in_err-head-in-Divides.field-0.0)
    (c.in_err-head-in-Divides.field-0.0.left, (rw (c.after_first-after.ensures.is) at c.in_err-head-in-Divides.ensures.is), omega (arith, f)))

pub read_open-read_denominator-requires : goal.read_open-read_denominator-requires
read_open-read_denominator-requires g t c =
    let codes = g.R.Roles.codes c.args.grammar.roles.now in
    let token = g.R.Lexicon.token c.args.grammar.roles.now in
    let inner : c.read_run.new.arena.below ≡ first_open c.read_run.new.arena.below ∷ other_open c.read_run.new.arena.below =
    c.in_ok-rest.ensures.is.adds.below ∙ c.requires.inner ∙ ap (λ ls. first_open ls ∷ other_open ls) (sym c.in_ok-rest.ensures.is.adds.below) in
    let inside : are_inside c.read_run.new.arena.top ≡ true =
    mid_inside codes c.args.grammar.units c.args.ending c.args.group.level c.args.group.family c.args.run.now.last c.args.arena.now c.read_run.new.arena c.read_run.new.run (map token c.args.tokens.now) (map token c.in_ok-rest.rest.now) c.in_ok-rest.ensures.is c.requires.inside in
    search rules

pub read_open-returns-in_ok-head-in-Divides-clause-is : goal.read_open-returns-in_ok-head-in-Divides-clause-is
read_open-returns-in_ok-head-in-Divides-clause-is g t c =
    let codes = g.R.Roles.codes c.args.grammar.roles.now in
    let token = g.R.Lexicon.token c.args.grammar.roles.now in
    open_divides codes c.args.grammar.units c.args.ending c.args.group.level c.args.group.family c.args.run.now.last c.args.arena.now c.read_run.new.arena c.read_run.new.run (map token c.args.tokens.now) (map token c.in_ok-rest.rest.now) c.in_ok-rest.ensures.is c.in-Divides.delims c.in-Divides.bar
    ((rw (c.in-Divides.is) at c.in_ok-list_stop.ensures) c.args.grammar.units (whole_run codes c.args.grammar.units) c.args.group.level (ran codes c.args.grammar.units c.args.ending c.args.group.level c.args.group.family c.args.run.now.last c.args.arena.now c.read_run.new.arena c.read_run.new.run (map token c.args.tokens.now) (map token c.in_ok-rest.rest.now) c.in_ok-rest.ensures.is)) token c.read_denominator.result c.read_denominator.new.run.last _ c.in_ok-head-in-Divides.head.value _
    (rw (c.after_first-after.ensures.is) at c.in_ok-head-in-Divides.ensures.is)
    (rw (c.with_family-here.ensures.level, c.with_family-here.ensures.family) at c.read_denominator.ensures.is)

pub read_denominator-returns-in_err-list_ends-clause-is : goal.read_denominator-returns-in_err-list_ends-clause-is
read_denominator-returns-in_err-list_ends-clause-is g t c =
    let codes = g.R.Roles.codes c.args.grammar.roles.now in
    let token = g.R.Lexicon.token c.args.grammar.roles.now in
    let p = err_from_is_err_and c.from_residual-in_err-list_ends.result c.from_residual-in_err-list_ends.ensures.1 in
    let f : Fits w64 c.in_err-list_ends.field-0.0.left = search rules in
    rw (p.1, p.2) (fraction_fails codes c.args.grammar.units c.args.ending c.args.group.level c.args.group.family c.args.run.now.last c.args.arena.now c.close_list.new.arena c.begin.new.self c.read_run.new.arena c.read_run.new.arena c.read_run.new.arena c.read_run.new.arena
    c.in_ok-num.num c.in_ok-num.num c.args.head c.read_run.new.run (map token c.args.tokens.now) _ c.in_ok-num.ensures.closes c.in_ok-num.ensures.is c.in_ok-num.ensures.kept c.in_ok-begin.ensures.closed c.in_ok-begin.ensures.top c.in_ok-begin.ensures.below c.in_ok-rest.ensures.is (AtFault c.in_err-list_ends.field-0.0)
    (c.in_err-list_ends.field-0.0.left, c.in_err-list_ends.ensures c.args.grammar.units _, omega (arith, f)))

pub read_denominator-push-requires-clause-lists : goal.read_denominator-push-requires-clause-lists
read_denominator-push-requires-clause-lists g t c =
    rw (c.in_ok-fraction_thing.ensures, c.in_ok-begin-2.ensures.closed) (fraction_lists c.close_list.new.arena.closed c.close_list-2.new.arena.closed c.in_ok-num.num c.in_ok-den.den (extends_more c.close_list.new.arena.closed c.read_run.new.arena.closed c.close_list-2.new.arena.closed (rw (c.in_ok-begin.ensures.closed) at c.in_ok-rest.ensures.is.adds.front) c.in_ok-den.ensures.closes.front) c.in_ok-num.ensures.kept c.in_ok-den.ensures.kept)

pub read_denominator-returns-clause-is : goal.read_denominator-returns-clause-is
read_denominator-returns-clause-is g t c =
    let codes = g.R.Roles.codes c.args.grammar.roles.now in
    let token = g.R.Lexicon.token c.args.grammar.roles.now in
    fraction_whole codes c.args.grammar.units c.args.ending c.args.group.level c.args.group.family c.args.run.now.last c.args.arena.now c.close_list.new.arena c.begin.new.self c.read_run.new.arena c.close_list-2.new.arena c.begin-2.new.self c.push.new.self
    c.in_ok-num.num c.in_ok-den.den c.args.head c.read_run.new.run (map token c.args.tokens.now) _ c.in_ok-num.ensures.closes c.in_ok-num.ensures.is c.in_ok-num.ensures.kept c.in_ok-begin.ensures.closed c.in_ok-begin.ensures.top c.in_ok-begin.ensures.below c.in_ok-rest.ensures.is
    c.in_ok-den.ensures.closes c.in_ok-den.ensures.is c.in_ok-begin-2.ensures.closed c.in_ok-begin-2.ensures.top c.in_ok-begin-2.ensures.below (c.in_ok-list_ends.ensures c.args.grammar.units _)
    (rw (c.in_ok-fraction_thing.ensures) at c.in_ok-push.ensures.is) c.in_ok-push.ensures.below c.in_ok-push.ensures.closed c.requires.inner

pub read_choice-returns-clause-kept : goal.read_choice-returns-clause-kept
read_choice-returns-clause-kept g t c =
    choice_kept c.read_branch.new.arena.closed c.read_next_branch.new.arena.closed c.read_next_branch-2.new.arena.closed c.read_next_branch-3.new.arena.closed _ _ _ _ c.in_ok-text.ensures.is.0.front c.in_ok-script.ensures.is.0.front c.in_ok-small.ensures.is.0.front c.in_ok-display.ensures.kept c.in_ok-text.ensures.kept c.in_ok-script.ensures.kept c.in_ok-small.ensures.kept

pub read_segment-returns-clause-is : goal.read_segment-returns-clause-is
read_segment-returns-clause-is g t c =
    let codes = g.R.Roles.codes c.args.grammar.roles.now in
    let token = g.R.Lexicon.token c.args.grammar.roles.now in
    segment_joined codes c.args.grammar.units (whole_run codes c.args.grammar.units) c.args.group.level c.args.group.family (map token c.args.tokens.now) (map token c.in_ok-rest.rest.now)
    c.args.arena.now c.begin.new.self c.read_open.new.arena c.push_last.new.arena c.join.new.self c.read_open.new.run.last c.in_ok-begin.ensures.closed c.in_ok-begin.ensures.top c.in_ok-begin.ensures.below
    c.in_ok-rest.ensures.is c.in_ok-push_last.ensures.adds c.in_ok-push_last.ensures.closed c.join.ensures.top c.join.ensures.below c.join.ensures.closed

pub read_root-returns-in_err-list-clause-is : goal.read_root-returns-in_err-list-clause-is
read_root-returns-in_err-list-clause-is g t c =
    let codes = g.R.Roles.codes c.args.grammar.roles.now in
    let token = g.R.Lexicon.token c.args.grammar.roles.now in
    let p = err_from_is_err_and c.from_residual.result c.from_residual.ensures.1 in
    rw (p.1, p.2) (degree_fails codes c.args.grammar.units c.args.group.level c.args.group.family (map token c.args.tokens.now) _ (rw (c.inside.ensures.level, c.inside.ensures.family) at c.in_err-list.ensures.is))

pub read_root-returns-in_err-body-clause-is : goal.read_root-returns-in_err-body-clause-is
read_root-returns-in_err-body-clause-is g t c =
    let codes = g.R.Roles.codes c.args.grammar.roles.now in
    let token = g.R.Lexicon.token c.args.grammar.roles.now in
    let p = err_from_is_err_and c.from_residual-in_err-body.result c.from_residual-in_err-body.ensures.1 in
    rw (p.1, p.2) (body_fails codes c.args.grammar.units c.args.group.level c.args.group.family (map token c.args.tokens.now) _ _ _ (rw (c.inside.ensures.level, c.inside.ensures.family) at c.in_ok-list.ensures.is.1)
    (rw (c.after_first.ensures.is) at c.in_err-body.ensures.is))
