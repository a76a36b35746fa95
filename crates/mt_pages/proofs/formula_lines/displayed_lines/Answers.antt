use Rattle.std.proofs.Common.{ap, refl, to_z-of_z, to_z, of_z, w64, Some, None}
use Rattle.mt_arena.specs.Arena.{sequence_in}
use Rattle.mt_arena.specs.Formulas.{tag_in}
use Rattle.mt_pages.proofs.Common.{sy, Text, display_lines, is_left, LineStack}
use Rattle.mt_pages.proofs.LineLemmas.{alone_put, both_put}
use Rattle.mt_pages.proofs.formula_lines.displayed_lines.Goals as goal

pub returns-in_default : goal.returns-in_default
returns-in_default c =
    let old = c.args.stack.now in
    let mid : LineStack = record { pieces = c.put_row.new.pieces; shifts = old.shifts } in
    let new = c.put_display.new.self in
    let w = to_z w64 (of_z w64 c.args.width) in
    λ lines on.
    alone_put c.put_for.result c.args.fonts.now c.args.n (sequence_in c.args.arena.now.closed c.args.list) lines old mid new c.len-first.result w c.args.width (tag_in c.args.arena.now.closed c.args.tag) (to_z-of_z c.ranges.width) (ap (tag_in c.args.arena.now.closed) c.in_default.is) on c.len-first.ensures
    c.in_ok-put_row.ensures.is refl (λ ls row e s. c.put_for.ensures ls new (display_lines (sy c.args.fonts.now 6 Text) row None w) (c.put_display.ensures ls row e s))

pub returns : goal.returns
returns c =
    let old = c.args.stack.now in
    let mid : LineStack = record { pieces = c.put_row.new.pieces; shifts = old.shifts } in
    let both : LineStack = record { pieces = c.put_row-2.new.pieces; shifts = old.shifts } in
    let new = c.put_numbered.new.self in
    let w = to_z w64 (of_z w64 c.args.width) in
    let left = is_left c.of-side.result in
    λ lines on.
    both_put c.put_for-2.result c.args.fonts.now c.args.n (sequence_in c.args.arena.now.closed c.args.list) lines old mid new c.len-first.result w c.args.width (tag_in c.args.arena.now.closed c.args.tag) (record { body = sequence_in c.args.arena.now.closed c.in-Some.tag.body; left = c.in-Some.tag.left }) left both c.len-end.result (to_z-of_z c.ranges.width) (ap (tag_in c.args.arena.now.closed) c.in-Some.is)
    c.of-side.ensures on c.len-first.ensures c.in_ok-put_row.ensures.is refl c.len-end.ensures c.in_ok-put_row-2.ensures.is refl
    (λ ls row number e f s. c.put_for-2.ensures ls new (display_lines (sy c.args.fonts.now 6 Text) row (Some (record { row = number; left = left })) w) (c.put_numbered.ensures ls row number e f s))
