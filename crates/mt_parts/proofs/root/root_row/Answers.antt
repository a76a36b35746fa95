use Rattle.std.proofs.Common.{◌∙◌, ap, sym, Ok, List}
use Rattle.mt_box.specs.Layout.{layout_of}
use Rattle.mt_box.specs.Rows.{PieceValue}
use Rattle.mt_parts.proofs.Rooting.{row_fault}
use Rattle.mt_parts.proofs.root.root_row.Goals as goal

pub returns-in_err-kerns-clause-is : goal.returns-in_err-kerns-clause-is
returns-in_err-kerns-clause-is c = row_fault c.args.fonts.now c.args.style (layout_of c.args.degree) (layout_of c.args.radical) _ _ c.from_residual.ensures.1 c.in_err-kerns.ensures.is

pub returns-clause-is : goal.returns-clause-is
returns-clause-is c =
    c.in_ok-kerns.ensures.is (layout_of c.args.degree) (layout_of c.args.radical)
    ∙ ap (λ (row : List PieceValue). Ok row) (sym (rw (c.raise_of_degree-raise.ensures.is, c.extents.ensures.is) at c.in_ok-row_with_degree.ensures.is))
