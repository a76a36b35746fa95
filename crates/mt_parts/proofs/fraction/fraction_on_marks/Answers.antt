use Rattle.std.proofs.Common.{◌∙◌, ◌∷◌, [], ap}
use Rattle.mt_box.specs.marks.Layers.{top, swapped_layers}
use Rattle.mt_rules.specs.Fractions.{fraction}
use Rattle.mt_parts.proofs.MarkedParts.{passes, stops, same_pieces, same_row}
use Rattle.mt_parts.proofs.fraction.fraction_on_marks.Goals as goal

pub returns-in_err-left-clause-is : goal.returns-in_err-left-clause-is
unfolding fraction
returns-in_err-left-clause-is c = λ n d rest e. stops _ _ _ _ _ _ c.from_residual.ensures.1 (rw (c.size-size.ensures, c.delimiter_size-wanted.ensures.is) at c.in_err-left.ensures.is)

pub returns-in_err-right-clause-is : goal.returns-in_err-right-clause-is
unfolding fraction
returns-in_err-right-clause-is c = λ n d rest e.
    passes _ _ _ _ (rw (c.size-size.ensures, c.delimiter_size-wanted.ensures.is) at c.in_ok-left.ensures.is)
    (stops _ _ _ _ _ _ c.from_residual-in_err-right.ensures.1 (rw (c.size-size.ensures, c.delimiter_size-wanted.ensures.is) at c.in_err-right.ensures.is))

pub returns-in_err-body-clause-is : goal.returns-in_err-body-clause-is
unfolding fraction
returns-in_err-body-clause-is c = λ n d rest e.
    let l = top c.delimiter_on_marks.new.marks in
    let r = top c.delimiter_on_marks-2.new.marks in
    let one = c.swap-2.ensures ∙ ap (λ s. swapped_layers 1 s) (c.swap.ensures ∙ ap (λ s. swapped_layers 0 s) (c.in_ok-left.ensures.rest ∙ ap (λ s. l ∷ s) e)) in
    let two = c.swap-4.ensures ∙ ap (λ s. swapped_layers 1 s) (c.swap-3.ensures ∙ ap (λ s. swapped_layers 0 s) (c.in_ok-right.ensures.rest ∙ ap (λ s. r ∷ s) one)) in
    passes _ _ _ _ (rw (c.size-size.ensures, c.delimiter_size-wanted.ensures.is) at c.in_ok-left.ensures.is)
    (passes _ _ _ _ (rw (c.size-size.ensures, c.delimiter_size-wanted.ensures.is) at c.in_ok-right.ensures.is)
    (stops _ _ _ _ _ _ c.from_residual-in_err-body.ensures.1 (c.in_err-body.ensures.is n d (r ∷ l ∷ rest) two)))

pub returns-clause-is : goal.returns-clause-is
unfolding fraction
returns-clause-is c = λ n d rest e.
    let l = top c.delimiter_on_marks.new.marks in
    let r = top c.delimiter_on_marks-2.new.marks in
    let b = top c.body_on_marks.new.marks in
    let one = c.swap-2.ensures ∙ ap (λ s. swapped_layers 1 s) (c.swap.ensures ∙ ap (λ s. swapped_layers 0 s) (c.in_ok-left.ensures.rest ∙ ap (λ s. l ∷ s) e)) in
    let two = c.swap-4.ensures ∙ ap (λ s. swapped_layers 1 s) (c.swap-3.ensures ∙ ap (λ s. swapped_layers 0 s) (c.in_ok-right.ensures.rest ∙ ap (λ s. r ∷ s) one)) in
    let three = c.swap-5.ensures ∙ ap (λ s. swapped_layers 0 s) (c.in_ok-body.ensures.rest n d (r ∷ l ∷ rest) two) in
    passes _ _ _ _ (rw (c.size-size.ensures, c.delimiter_size-wanted.ensures.is) at c.in_ok-left.ensures.is)
    (passes _ _ _ _ (rw (c.size-size.ensures, c.delimiter_size-wanted.ensures.is) at c.in_ok-right.ensures.is)
    (passes _ _ _ _ (c.in_ok-body.ensures.is n d (r ∷ l ∷ rest) two)
    (same_row _ _ (same_pieces (rw c.size-size.ensures at c.on_axis.ensures.is l) (same_pieces (c.on_baseline.ensures.is b) (ap (λ p. p ∷ []) (rw c.size-size.ensures at c.on_axis-2.ensures.is r))))
    (c.row_on_marks.ensures.is (l ∷ b ∷ r ∷ []) rest tt three))))

pub returns-clause-rest : goal.returns-clause-rest
returns-clause-rest c = λ n d rest e.
    let l = top c.delimiter_on_marks.new.marks in
    let r = top c.delimiter_on_marks-2.new.marks in
    let b = top c.body_on_marks.new.marks in
    let one = c.swap-2.ensures ∙ ap (λ s. swapped_layers 1 s) (c.swap.ensures ∙ ap (λ s. swapped_layers 0 s) (c.in_ok-left.ensures.rest ∙ ap (λ s. l ∷ s) e)) in
    let two = c.swap-4.ensures ∙ ap (λ s. swapped_layers 1 s) (c.swap-3.ensures ∙ ap (λ s. swapped_layers 0 s) (c.in_ok-right.ensures.rest ∙ ap (λ s. r ∷ s) one)) in
    let three = c.swap-5.ensures ∙ ap (λ s. swapped_layers 0 s) (c.in_ok-body.ensures.rest n d (r ∷ l ∷ rest) two) in
    c.row_on_marks.ensures.rest (l ∷ b ∷ r ∷ []) rest tt three
