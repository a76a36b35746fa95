use Rattle.std.proofs.Common.{◌∙◌, ap, sym, subst}
use Rattle.mt_display.proofs.Common.{ExtentsInRange, Layout, pack, equation_layout}
use Rattle.mt_display.proofs.RowPieces.{equation_packed, equation_in_range, box_is}
use Rattle.mt_display.proofs.equations.numbered.Goals as goal

pub pack_in_range-requires-clause-in_range : goal.pack_in_range-requires-clause-in_range
pack_in_range-requires-clause-in_range c =
    let k = c.kerns_of-kerns.ensures in
    subst (λ (l : Layout). ExtentsInRange l.extents)
    (sym (ap pack c.in_ok-pieces.ensures.is ∙ equation_packed c.args.place.line.sp c.args.place.axis.sp c.args.place.left c.kerns_of-kerns.result (equation_layout c.args.row) k.before k.between k.after))
    (equation_in_range c.args.place.line.sp c.args.place.axis.sp c.args.place.left (equation_layout c.args.row) c.requires.line k.in_range)

pub returns-clause-is : goal.returns-clause-is
returns-clause-is c =
    let k = c.kerns_of-kerns.ensures in
    box_is c.pack_in_range.result _ _ c.pack_in_range.ensures.is
    (ap pack c.in_ok-pieces.ensures.is ∙ equation_packed c.args.place.line.sp c.args.place.axis.sp c.args.place.left c.kerns_of-kerns.result (equation_layout c.args.row) k.before k.between k.after)
