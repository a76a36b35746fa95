use Rattle.std.proofs.Common.{◌∷◌, [], ap, lit<, ℤ}
use Rattle.mt_scaled.specs.Number.{max_dimen}
use Rattle.mt_scaled.proofs.Products.{kept}
use Rattle.mt_box.specs.Rows.{PieceKern}
use Rattle.mt_rules.specs.OnMarks.{layout_with}
use Rattle.mt_parts.proofs.MarkedParts.{passes, same_pieces, same_row}
use Rattle.mt_parts.proofs.Rooting.{root_fault}
use Rattle.mt_parts.proofs.root.root_on_marks.Goals as goal

pub returns-in_err-kerns-clause-is : goal.returns-in_err-kerns-clause-is
returns-in_err-kerns-clause-is c = λ d r rest e. root_fault c.args.fonts.now c.args.style (layout_with c.args.degree d) (layout_with c.args.radical r) _ _ _ c.from_residual.ensures.1 c.in_err-kerns.ensures.is

pub returns-clause-is : goal.returns-clause-is
returns-clause-is c = λ d r rest e.
    let k = c.in_ok-kerns.kerns in
    let before = ap (λ (z : ℤ). PieceKern z) (kept max_dimen k.before.sp c.in_ok-kerns.ensures.before (lit< tt)) in
    let behind = ap (λ (z : ℤ). PieceKern z) (kept max_dimen k.behind.sp c.in_ok-kerns.ensures.behind (lit< tt)) in
    passes _ _ _ _ (c.in_ok-kerns.ensures.is (layout_with c.args.degree d) (layout_with c.args.radical r))
    (same_row _ _ (same_pieces before (same_pieces (rw c.raise_of_degree-raise.ensures.is at c.raised.ensures.is d) (same_pieces behind (ap (λ p. p ∷ []) (c.on_baseline.ensures.is r)))))
    (c.row_on_marks.ensures.is (d ∷ r ∷ []) rest tt e))

pub returns-clause-rest : goal.returns-clause-rest
returns-clause-rest c = λ d r rest e. c.row_on_marks.ensures.rest (d ∷ r ∷ []) rest tt e
