use Rattle.std.proofs.Common.{refl}
use Rattle.mt_arena.specs.Arena.{sequence_in}
use Rattle.mt_pages.proofs.Common.{inline_lines, LineStack}
use Rattle.mt_pages.proofs.LineLemmas.{text_put}
use Rattle.mt_pages.proofs.formula_lines.text_lines.Goals as goal

pub returns : goal.returns
returns c =
    let old = c.args.stack.now in
    let mid : LineStack = record { pieces = c.put_row.new.pieces; shifts = old.shifts } in
    let new = c.put_inline.new.self in
    λ lines on.
    text_put c.put_for.result c.args.fonts.now c.args.n (sequence_in c.args.arena.now.closed c.args.list) lines old mid new c.len-first.result on c.len-first.ensures c.in_ok-put_row.ensures.is refl
    (λ ls row e s. c.put_for.ensures ls new (inline_lines row) (c.put_inline.ensures ls row e s))
