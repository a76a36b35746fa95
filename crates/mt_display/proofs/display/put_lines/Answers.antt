use Rattle.std.proofs.Common.{◌≡◌, ◌++◌, ◌∷◌, ◌∙◌, [], List, ap, arith, drop, length, refl, sym}
use Rattle.mt_display.proofs.Common.{drop_at, PieceValue, piece_values}
use Rattle.mt_box.proofs.Packing.{measurable}
use Rattle.mt_box.specs.declared.piece.Piece.{Piece}
use Rattle.mt_display.proofs.Displaying.{number_here}
use Rattle.mt_display.proofs.display.put_lines.Goals as goal

values_length : (ps : List Piece) → length (piece_values ps) ≡ length ps
values_length [] = refl
values_length (p ∷ ps) = omega (arith, values_length ps)

put_few : (row : List Piece) (old now : List PieceValue) → now ≡ old ++ piece_values row → old ≡ [] → length now ≡ length row
put_few row old now e none = ap length (e ∙ ap (λ ps. ps ++ piece_values row) none) ∙ values_length row

pub put_row-requires : goal.put_row-requires
put_row-requires c = measurable _ c.requires.modest

pub put_display-requires-clause-few : goal.put_display-requires-clause-few
put_display-requires-clause-few c = omega (arith, put_few c.args.row _ c.put_row.new.self c.in_ok-put_row.ensures c.requires.empty.pieces, c.requires.few)

pub put_row-requires-in-Some : goal.put_row-requires-in-Some
put_row-requires-in-Some c = measurable _ (number_here _ _ c.in-Some.is c.requires.number).modest

pub put_numbered-requires-clause-body : goal.put_numbered-requires-clause-body
put_numbered-requires-clause-body c = omega (arith, put_few c.args.row _ c.put_row.new.self c.in_ok-put_row.ensures c.requires.empty.pieces, c.len-end.ensures, c.requires.few)

pub put_numbered-requires-clause-number : goal.put_numbered-requires-clause-number
put_numbered-requires-clause-number c =
    let n = c.in-Some.number.row in
    omega (arith, ap length (ap (drop c.len-end.result) c.in_ok-put_row-in-Some.ensures ∙ drop_at c.put_row.new.self (piece_values n) c.len-end.result (sym c.len-end.ensures)), values_length n, (number_here _ _ c.in-Some.is c.requires.number).few)
