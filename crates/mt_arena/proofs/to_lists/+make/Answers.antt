use Rattle.std.proofs.Common.{◌≡◌, ◌∙◌, IfOk, sym, ap, subst, arith}
use Rattle.mt_rules.specs.Facts.{IsMathList}
use Rattle.mt_rules.specs.View.{sequence_of, part_of_field}
use Rattle.mt_rules.specs.Rows.{rows_of, grid_of}
use Rattle.mt_arena.specs.Arena.{as_sequence, as_rows, as_grid, value_in, cell_part, cell_end}
use Rattle.mt_arena.proofs.Making.{after, rows_after, grid_after, after_more, rows_after_more, grid_after_more, after_end, rows_after_end, grid_after_end, one_after, row_after, cells_after, made_step, made_end, root_there}
use Rattle.mt_arena.proofs.to_lists.+make.Goals as goal

pub field_of-returns-in-Root : goal.field_of-returns-in-Root
field_of-returns-in-Root t c =
    let es = c.args.arena.now.closed in
    let e = root_there es c.in-Root.at (value_in es c.thing.result.now) (omega (arith, ap cell_end c.in-Root.is, c.requires.within)) c.thing.ensures.is in
    subst (λ p. IfOk c.root_of.result (λ f. part_of_field f ≡ p)) (sym (ap (λ x. cell_part es x) c.in-Root.is ∙ e)) c.root_of.ensures

pub list_of-from_vec-requires : goal.list_of-from_vec-requires
list_of-from_vec-requires t c =
    subst (λ s. IsMathList s) (sym (made_end after as_sequence sequence_of after_end c.args.arena.now.closed c.loop-at.at c.args.span.end c.loop-at.items.items _ c.loop-at-test.false c.loop-at.invariant)) c.requires.lists.0

pub list_of-loop-at-preserved : goal.list_of-loop-at-preserved
list_of-loop-at-preserved t c =
    let es = c.args.arena.now.closed in
    let h = value_in es c.thing.result.now in
    made_step after as_sequence after_more es c.loop-at.at c.args.span.end h c.in_ok-item.item c.loop-at.items.items _ _ c.loop-at-test.true c.requires.within c.thing.ensures.is
    (λ hs. one_after h hs c.in_ok-item.item c.in_ok-item.ensures) c.in_ok-push_some.ensures c.loop-at.invariant

pub list_of-returns : goal.list_of-returns
list_of-returns t c =
    c.from_vec.ensures ∙ made_end after as_sequence sequence_of after_end c.args.arena.now.closed c.loop-at.at c.args.span.end c.loop-at.items.items _ c.loop-at-test.false c.loop-at.invariant

pub rows_of-loop-at-preserved : goal.rows_of-loop-at-preserved
rows_of-loop-at-preserved t c =
    let es = c.args.arena.now.closed in
    let h = value_in es c.thing.result.now in
    made_step rows_after as_rows rows_after_more es c.loop-at.at c.args.span.end h c.in_ok-row.row c.loop-at.rows.items _ _ c.loop-at-test.true c.requires.within c.thing.ensures.is
    (λ hs. row_after h hs c.in_ok-row.row c.in_ok-row.ensures) c.in_ok-push_some.ensures c.loop-at.invariant

pub rows_of-returns : goal.rows_of-returns
rows_of-returns t c =
    c.from_vec.ensures ∙ made_end rows_after as_rows rows_of rows_after_end c.args.arena.now.closed c.loop-at.at c.args.span.end c.loop-at.rows.items _ c.loop-at-test.false c.loop-at.invariant

pub table_of-loop-at-preserved : goal.table_of-loop-at-preserved
table_of-loop-at-preserved t c =
    let es = c.args.arena.now.closed in
    let h = value_in es c.thing.result.now in
    made_step grid_after as_grid grid_after_more es c.loop-at.at c.args.span.end h c.in_ok-row.row c.loop-at.rows.items _ _ c.loop-at-test.true c.requires.within c.thing.ensures.is
    (λ hs. cells_after h hs c.in_ok-row.row c.in_ok-row.ensures) c.in_ok-push_some.ensures c.loop-at.invariant

pub table_of-returns : goal.table_of-returns
table_of-returns t c =
    c.from_vec.ensures ∙ made_end grid_after as_grid grid_of grid_after_end c.args.arena.now.closed c.loop-at.at c.args.span.end c.loop-at.rows.items _ c.loop-at-test.false c.loop-at.invariant
