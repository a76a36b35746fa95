use Rattle.std.proofs.Common.{◌∙◌, ◌∷◌, [], ap, lit<}
use Rattle.mt_scaled.specs.Number.{max_dimen}
use Rattle.mt_scaled.proofs.Products.{kept}
use Rattle.mt_box.specs.marks.Layers.{top, swapped_layers}
use Rattle.mt_rules.specs.OnMarks.{layout_with}
use Rattle.mt_rules.specs.Radicals.{radical}
use Rattle.mt_parts.proofs.MarkedParts.{passes, stops, under_sign, same_pieces, same_row}
use Rattle.mt_parts.proofs.radical.radical_on_marks.Goals as goal

pub returns-in_err-sign-clause-is : goal.returns-in_err-sign-clause-is
unfolding radical
returns-in_err-sign-clause-is c = λ n rest e. stops _ _ _ _ _ _ c.from_residual.ensures.1 (rw (c.size.ensures, c.sign_size-wanted.ensures.is) at c.in_err-sign.ensures.is)

pub returns-in_err-nucleus-clause-is : goal.returns-in_err-nucleus-clause-is
unfolding radical
returns-in_err-nucleus-clause-is c = λ n rest e.
    let s = top c.delimiter_on_marks.new.marks in
    let one = c.swap.ensures ∙ ap (λ k. swapped_layers 0 k) (c.in_ok-sign.ensures.rest ∙ ap (λ k. s ∷ k) e) in
    let same = kept max_dimen c.in_ok-sign.sign.height c.in_ok-sign.ensures.in_range.height (lit< tt) in
    passes _ _ _ _ (rw (c.size.ensures, c.sign_size-wanted.ensures.is) at c.in_ok-sign.ensures.is)
    (under_sign _ _ _ c.bottom_over_body-height.result.sp c.in_ok-sign.sign.height (layout_with c.args.body n) (layout_with c.in_ok-sign.sign s) c.bottom_over_body-height.ensures.is
    (stops _ _ _ _ _ _ c.from_residual-in_err-nucleus.ensures.1 (rw same at c.in_err-nucleus.ensures.is n (s ∷ rest) one)))

pub returns-clause-is : goal.returns-clause-is
unfolding radical
returns-clause-is c = λ n rest e.
    let s = top c.delimiter_on_marks.new.marks in
    let b = top c.under_rule_on_marks.new.marks in
    let one = c.swap.ensures ∙ ap (λ k. swapped_layers 0 k) (c.in_ok-sign.ensures.rest ∙ ap (λ k. s ∷ k) e) in
    let same = kept max_dimen c.in_ok-sign.sign.height c.in_ok-sign.ensures.in_range.height (lit< tt) in
    passes _ _ _ _ (rw (c.size.ensures, c.sign_size-wanted.ensures.is) at c.in_ok-sign.ensures.is)
    (under_sign _ _ _ c.bottom_over_body-height.result.sp c.in_ok-sign.sign.height (layout_with c.args.body n) (layout_with c.in_ok-sign.sign s) c.bottom_over_body-height.ensures.is
    (passes _ _ _ _ (rw same at c.in_ok-nucleus.ensures.is n (s ∷ rest) one)
    (same_row _ _ (same_pieces (c.raised.ensures.is s) (ap (λ p. p ∷ []) (c.on_baseline.ensures.is b)))
    (c.row_on_marks.ensures.is (s ∷ b ∷ []) rest tt (c.in_ok-nucleus.ensures.rest n (s ∷ rest) one)))))

pub returns-clause-rest : goal.returns-clause-rest
returns-clause-rest c = λ n rest e.
    let s = top c.delimiter_on_marks.new.marks in
    let b = top c.under_rule_on_marks.new.marks in
    let one = c.swap.ensures ∙ ap (λ k. swapped_layers 0 k) (c.in_ok-sign.ensures.rest ∙ ap (λ k. s ∷ k) e) in
    c.row_on_marks.ensures.rest (s ∷ b ∷ []) rest tt (c.in_ok-nucleus.ensures.rest n (s ∷ rest) one)
