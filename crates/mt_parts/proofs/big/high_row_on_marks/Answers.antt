use Rattle.std.proofs.Common.{[], ◌∷◌}
use Rattle.mt_box.specs.Rows.{PieceBox, pack}
use Rattle.mt_box.specs.declared.marks.row.RowPart.TheVariants as part
use Rattle.mt_box.specs.marks.Layers.{top}
use Rattle.mt_rules.specs.OnMarks.{layout_with}
use Rattle.mt_parts.proofs.MarkedParts.{are_parts, row_made, always, on_top}
use Rattle.mt_parts.proofs.Bigs.{made_high}
use Rattle.mt_parts.proofs.big.high_row_on_marks.Goals as goal

pub returns-clause-is : goal.returns-clause-is
returns-clause-is c = λ l rest e.
    let ms = PieceBox c.args.piece.raise (layout_with c.args.piece.extents l) ∷ [] in
    let are = are_parts (part.Layout c.args.piece ∷ []) (l ∷ []) tt in
    let x = c.with_height.ensures in
    made_high c.args.height.sp c.in_ok-extents.extents c.with_height.result (pack ms) c.tested_part.result (top c.pack_parts.new.marks) x.width x.height x.depth
    (row_made ms c.in_ok-extents.extents c.pack_parts.new.marks rest (c.in_ok-extents.ensures.extents ms (l ∷ []) are) (c.in_ok-extents.ensures.marks ms (l ∷ []) rest are e))
    (c.tested_part.ensures.is (top c.pack_parts.new.marks))

pub returns-clause-rest : goal.returns-clause-rest
returns-clause-rest c = λ l rest e.
    let ms = PieceBox c.args.piece.raise (layout_with c.args.piece.extents l) ∷ [] in
    always c.tested_part.result (on_top (c.in_ok-extents.ensures.marks ms (l ∷ []) rest (are_parts (part.Layout c.args.piece ∷ []) (l ∷ []) tt) e))
