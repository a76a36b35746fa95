use Rattle.std.proofs.Common.{◌∙◌, ap, ◌-ℤ◌}
use Rattle.mt_parts.specs.LineLayers.{lines_joined, lines_reach}
use Rattle.mt_parts.proofs.MarkedParts.{on_top}
use Rattle.mt_parts.proofs.Lining.{lines_stack, lines_made}
use Rattle.mt_parts.proofs.centred.lines_on_marks.Goals as goal

pub returns-clause-is : goal.returns-clause-is
returns-clause-is c = λ ls rest r e.
    let x = c.in_ok-extents.extents in
    let begun = c.in_ok-join_lines.ensures ∙ ap (λ s. lines_joined (lines_reach c.args.rows.now -ℤ x.depth) c.args.rows.now s) c.in_ok-begin.ensures.is in
    lines_made x c.args.whole ls c.join_lines.new.marks rest c.in_ok-extents.ensures.is.0 c.in_ok-extents.ensures.is.1
    (begun ∙ lines_stack x c.args.rows.now ls c.args.marks.now rest (rw c.in_ok-extents.ensures.is.0 c.requires.whole) r e)

pub returns-clause-rest : goal.returns-clause-rest
returns-clause-rest c = λ ls rest r e.
    let x = c.in_ok-extents.extents in
    let begun = c.in_ok-join_lines.ensures ∙ ap (λ s. lines_joined (lines_reach c.args.rows.now -ℤ x.depth) c.args.rows.now s) c.in_ok-begin.ensures.is in
    on_top (begun ∙ lines_stack x c.args.rows.now ls c.args.marks.now rest (rw c.in_ok-extents.ensures.is.0 c.requires.whole) r e)
