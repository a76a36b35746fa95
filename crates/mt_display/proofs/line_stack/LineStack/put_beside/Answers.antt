use Rattle.std.proofs.Common.{[], ◌∷◌, ◌∙◌, ◌-◌, ap, pos, Ok, Err}
use Rattle.mt_display.proofs.Common.{err_from_is_err_and, PieceBox, PieceKern, pack, ◌>>=◌, one_line, line_boxes}
use Rattle.std.specs.Prelude.{⊤}
use Rattle.mt_pieces.proofs.Packed.{fails_then, packed, refused}
use Rattle.mt_display.proofs.Displaying.{kern_between, packs_as, puts_err}
use Rattle.mt_display.proofs.LineStacks.{one_more_line}
use Rattle.mt_display.proofs.line_stack.LineStack.put_beside.Goals as goal

pub returns-in_err-pack : goal.returns-in_err-pack
returns-in_err-pack c lines a b is =
    let p = err_from_is_err_and c.from_residual-in_err-pack.result c.from_residual-in_err-pack.ensures.1 in
    let row = PieceBox (pos 0) a ∷ PieceKern c.args.room.sp ∷ PieceBox (pos 0) b ∷ [] in
    let k = kern_between (line_boxes lines) _ _ c.args.room.sp c.args.self.now.pieces c.put_kern.new.self c.swap_last.new.pieces c.saturating_sub-first.result is.pieces c.in_ok-put_kern.ensures c.in_ok-swap_last.ensures (c.saturating_sub-first.ensures ∙ ap (λ n. n - 3) c.len.ensures) in
    let h = packs_as {U = ⊤} c.saturating_sub-first.result (Err c.in_err-pack.field-0.0) c.pack.new.self c.in_err-pack.ensures k in
    rw (p.1, p.2) (puts_err c.in_err-pack.field-0.0 lines _ _ (fails_then c.in_err-pack.field-0.0 _ (λ body. Ok (one_line c.args.shift.sp body)) (refused c.in_err-pack.field-0.0 (pack row) (line_boxes lines) c.pack.new.self h)))

pub returns : goal.returns
returns c lines a b is =
    let row = PieceBox (pos 0) a ∷ PieceKern c.args.room.sp ∷ PieceBox (pos 0) b ∷ [] in
    let k = kern_between (line_boxes lines) _ _ c.args.room.sp c.args.self.now.pieces c.put_kern.new.self c.swap_last.new.pieces c.saturating_sub-first.result is.pieces c.in_ok-put_kern.ensures c.in_ok-swap_last.ensures (c.saturating_sub-first.ensures ∙ ap (λ n. n - 3) c.len.ensures) in
    let h = packed (pack row) (line_boxes lines) c.pack.new.self (packs_as {U = ⊤} c.saturating_sub-first.result (Ok c.in_ok-pack.field-0) c.pack.new.self c.in_ok-pack.ensures k) in
    one_more_line lines (record { shift = c.args.shift.sp; body = pack row }) _ _ (c.in_ok-end_line.ensures lines (pack row) [] (record { pieces = h.pieces; shifts = is.shifts })) (ap (λ s. s >>= λ body. Ok (one_line c.args.shift.sp body)) h.made) c.requires.shift
