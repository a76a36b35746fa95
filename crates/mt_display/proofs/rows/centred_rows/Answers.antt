use Rattle.std.proofs.Common.{◌∙◌}
use Rattle.mt_display.proofs.Common.{BoxValue, layout_of, no_more, centred_row}
use Rattle.mt_display.proofs.RowMaps.{made_start, made_step, made_values, made_level, next_level}
use Rattle.mt_display.proofs.rows.centred_rows.Goals as goal

pub loop-row-init : goal.loop-row-init
loop-row-init c = (
  tt,
  tt,
  made_start (λ (b : BoxValue). b.level) layout_of (centred_row c.args.line.sp) c.args.rows _ _ (c.into_iter-row-iterator.ensures.into_iter_gives.0 ∙ c.into_vec-row-items.ensures) c.in_ok-made.ensures.items,
)

pub centred-requires-clause-level : goal.centred-requires-clause-level
centred-requires-clause-level c = next_level (λ (b : BoxValue). b.level) layout_of (centred_row c.args.line.sp) c.args.rows _ _ c.in-Some.row _ c.loop-row.invariant.2 c.in-Some.ensures.steps.0 c.requires.level

pub loop-row-preserved : goal.loop-row-preserved
loop-row-preserved c = (
  tt,
  tt,
  made_step (λ (b : BoxValue). b.level) layout_of (centred_row c.args.line.sp) c.args.rows _ _ c.in-Some.row _ _ c.in_ok-row.row c.loop-row.invariant.2 c.in-Some.ensures.steps.0 c.in_ok-row.ensures.is c.in_ok-row.ensures.level c.in_ok-push_to.ensures,
)

pub returns-clause-is : goal.returns-clause-is
returns-clause-is c = rw c.from_vec.ensures (made_values (λ (b : BoxValue). b.level) layout_of (centred_row c.args.line.sp) c.args.rows _ _ c.loop-row.invariant.2 (no_more _ _ c.loop-row.row-iterator.rest.ok.0 c.in-None.ensures.steps.0))

pub returns-clause-level : goal.returns-clause-level
returns-clause-level c = rw c.from_vec.ensures (made_level (λ (b : BoxValue). b.level) layout_of (centred_row c.args.line.sp) c.args.rows _ _ c.loop-row.invariant.2)
