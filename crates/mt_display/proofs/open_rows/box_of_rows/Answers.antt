use Rattle.std.proofs.Common.{map, sym, ◌∙◌}
use Rattle.mt_display.proofs.Common.{layout_of}
use Rattle.mt_box.specs.Columns.{entry_values}
use Rattle.mt_display.proofs.OpenRows.{boxed, too_high, line_in_range, top_is}
use Rattle.mt_display.proofs.open_rows.box_of_rows.Goals as goal

pub returns-then-not-in_range-clause-is : goal.returns-then-not-in_range-clause-is
returns-then-not-in_range-clause-is c =
    let e = c.in_ok-rows.ensures in
    too_high c.args.line.sp _ (map layout_of c.args.rows)
    (line_in_range c.args.line.sp c.requires.some c.requires.in_range)
    (top_is _ _ (map layout_of c.args.rows) _ c.height-height.ensures.small c.height-height.ensures.is e.total e.depth)
    (sym c.in_range.ensures ∙ c.if-not-in_range.true)

pub returns-clause-is : goal.returns-clause-is
returns-clause-is c =
    let e = c.in_ok-rows.ensures in
    boxed c.args.line.sp _ (map layout_of c.args.rows) (entry_values c.in_ok-rows.rows.column) c.vpack.result
    e.is e.width
    (top_is _ _ (map layout_of c.args.rows) _ c.height-height.ensures.small c.height-height.ensures.is e.total e.depth)
    c.vpack.ensures.packs
