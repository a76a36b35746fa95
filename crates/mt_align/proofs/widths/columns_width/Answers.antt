use Rattle.std.proofs.Common.{◌∙◌, sym}
use Rattle.mt_align.proofs.ColumnWidths.{width_some, not_empty}
use Rattle.mt_align.proofs.widths.columns_width.Goals as goal

pub returns-else-is_empty-clause-is : goal.returns-else-is_empty-clause-is
returns-else-is_empty-clause-is c =
    c.minus.ensures
    ∙ width_some c.args.gap.sp c.args.widths.now c.columns_reach-end.result.sp c.columns_reach-end.ensures.is (not_empty c.args.widths.now (sym c.if-is_empty.false ∙ c.is_empty.ensures))
