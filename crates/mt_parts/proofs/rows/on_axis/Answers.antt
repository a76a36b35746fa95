use Rattle.std.proofs.Common.{◌∙◌, ap}
use Rattle.mt_box.specs.Rows.{PieceBox}
use Rattle.mt_rules.specs.OnMarks.{layout_with}
use Rattle.mt_parts.proofs.rows.on_axis.Goals as goal

pub returns-clause-is : goal.returns-clause-is
returns-clause-is c = λ ps. c.raised.ensures.is ps ∙ ap (λ z. PieceBox z (layout_with c.args.extents ps)) c.raise_of.ensures.is
