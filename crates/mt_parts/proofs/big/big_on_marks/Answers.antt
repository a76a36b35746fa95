use Rattle.std.proofs.Common.{◌∙◌, ◌^◌, ap, lit<}
use Rattle.mt_scaled.proofs.Products.{kept}
use Rattle.mt_family.specs.declared.size.Size.TheVariants.{Text}
use Rattle.mt_box.specs.Layout.{Layout}
use Rattle.mt_box.specs.marks.Layers.{top}
use Rattle.mt_rules.specs.BigDelimiters.{big_delimiter}
use Rattle.mt_rules.specs.Delimiters.{delimiter_variant, piece_on_axis}
use Rattle.mt_rules.specs.OnMarks.{layout_with}
use Rattle.mt_delim.specs.Variants.{variant_value}
use Rattle.mt_parts.proofs.Bigs.{big_made}
use Rattle.mt_parts.proofs.MarkedParts.{stops}
use Rattle.mt_parts.proofs.big.big_on_marks.Goals as goal

pub returns-in_err-body-clause-is : goal.returns-in_err-body-clause-is
unfolding big_delimiter
returns-in_err-body-clause-is c = stops _ _ _ _ _ _ c.from_residual.ensures.1 (rw (c.boundary_size-wanted.ensures.is, c.least_height-height.ensures.is) at c.in_err-body.ensures.is)

pub returns-clause-is : goal.returns-clause-is
returns-clause-is c =
    let l = top c.delimiter_on_marks.new.marks in
    big_made c.args.fonts.now c.args.delim c.args.level c.least_height-height.result.sp c.boundary_size-wanted.result.sp (variant_value c.choose_variant-variant.result) (layout_with c.in_ok-body.body l) _ c.high_row_on_marks.result (top c.high_row_on_marks.new.marks)
    c.least_height-height.ensures.is c.boundary_size-wanted.ensures.is c.in_ok-body.ensures.is
    (c.choose_variant-variant.ensures ∙ ap (λ z. delimiter_variant c.args.fonts.now c.args.delim Text z) (kept (2 ^ 40) c.boundary_size-wanted.result.sp c.boundary_size-wanted.ensures.small (lit< tt)))
    (c.on_axis-piece.ensures.is l ∙ ap (λ (m : Layout). piece_on_axis c.args.fonts.now Text m) (c.without_null_width.ensures.is l))
    (c.high_row_on_marks.ensures.is l c.args.marks.now c.in_ok-body.ensures.rest)

pub returns-clause-rest : goal.returns-clause-rest
returns-clause-rest c = c.high_row_on_marks.ensures.rest (top c.delimiter_on_marks.new.marks) c.args.marks.now c.in_ok-body.ensures.rest
