use Rattle.std.proofs.Common.{◌∷◌, [], ◌++◌, ◌∙◌, ap, pos}
use Rattle.mt_display.proofs.Common.{no_more}
use Rattle.mt_box.specs.declared.entry.Entry.TheVariants.{Boxed}
use Rattle.mt_display.proofs.OpenRows.{opened_start, opened_step, opened_end}
use Rattle.mt_display.proofs.open_rows.column_of_rows.Goals as goal

pub loop-row-init : goal.loop-row-init
loop-row-init c = (
  tt,
  tt,
  opened_start c.args.line.sp c.args.rows _ c.push_to.new.items.items c.in_ok-strut.strut c.requires.some c.in_ok-strut.ensures.is c.in_ok-strut.ensures.level
      (c.in_ok-push_to.ensures ∙ ap (λ es. es ++ Boxed (pos 0) c.in_ok-strut.strut ∷ []) c.in_ok-entries.ensures.items)
      (c.into_iter-row-iterator.ensures.into_iter_gives.0 ∙ c.into_vec-row-items.ensures)
      c.requires.few c.requires.level c.requires.wide,
)

pub loop-row-preserved : goal.loop-row-preserved
loop-row-preserved c = (
  tt,
  tt,
  opened_step c.args.line.sp c.args.rows _ _ c.in-Some.row c.loop-row.entries.items c.push_row.new.entries.items c.loop-row.reach.total.sp c.with-reach.result.total.sp c.gap_before-gap.result.sp c.loop-row.reach.depth c.with-reach.result.depth
      c.requires.some c.loop-row.invariant.2 c.in-Some.ensures.steps.0
      (rw c.extents-extents.ensures.is at c.extents-extents.ensures.in_range)
      (rw c.extents-extents.ensures.is at c.gap_before-gap.ensures.is) c.gap_before-gap.ensures.small
      c.in_ok-push_row.ensures
      (rw c.extents-extents.ensures.is at c.with-reach.ensures.total)
      (rw c.extents-extents.ensures.is at c.with-reach.ensures.depth),
)

pub returns-clause-total : goal.returns-clause-total
returns-clause-total c = (opened_end c.args.line.sp c.args.rows _ c.loop-row.entries.items c.loop-row.reach.total.sp c.loop-row.reach.depth c.loop-row.invariant.2 (no_more _ _ c.loop-row.row-iterator.rest.ok.0 c.in-None.ensures.steps.0)).total_is

pub returns-clause-depth : goal.returns-clause-depth
returns-clause-depth c = (opened_end c.args.line.sp c.args.rows _ c.loop-row.entries.items c.loop-row.reach.total.sp c.loop-row.reach.depth c.loop-row.invariant.2 (no_more _ _ c.loop-row.row-iterator.rest.ok.0 c.in-None.ensures.steps.0)).depth_is
