use Rattle.std.proofs.Common.{◌∙◌, ap, sym, subst, ◌^◌, lit<}
use Rattle.mt_display.proofs.Common.{kept, ExtentsInRange, Layout, layout_of, pack, piece_values}
use Rattle.mt_display.proofs.RowPieces.{centred_packed, centred_in_range}
use Rattle.mt_display.proofs.rows.centred_pieces.Goals as goal

pub returns-clause-is : goal.returns-clause-is
returns-clause-is c =
    ap (λ ps. pack (piece_values ps)) (c.from_vec.ensures ∙ c.in_ok-pieces.ensures.items)
    ∙ centred_packed c.args.line.sp _ _ c.margin_beside-before.result.sp (layout_of c.args.row)
    (kept (2 ^ 34) _ c.margin_beside-before.ensures.small (lit< tt))
    (rw c.extents-extents.ensures.is at c.margin_beside-before.ensures.is)
    (kept (2 ^ 36) _ c.rest_behind-after.ensures.small (lit< tt) ∙ (rw c.extents-extents.ensures.is at c.rest_behind-after.ensures.is))

pub returns-clause-in_range : goal.returns-clause-in_range
returns-clause-in_range c =
    subst (λ (l : Layout). ExtentsInRange l.extents) (sym (returns-clause-is c))
    (centred_in_range c.args.line.sp (layout_of c.args.row) c.requires.line (rw c.extents-extents.ensures.is at c.extents-extents.ensures.in_range))
