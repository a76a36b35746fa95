use Rattle.std.proofs.Common.{◌∙◌, ◌≡◌, ◌∷◌, ap, sym, subst, reverse, OnOk}
use Rattle.std.proofs.lemmas.Result.{on_ok_weaker}
use Rattle.mt_box.specs.declared.marks.row.RowPart.{RowPart}
use Rattle.mt_box.specs.Rows.{piece_value}
use Rattle.mt_box.specs.marks.Layers.{top}
use Rattle.mt_box.specs.marks.PieceParts.{IsPartInRange, part_of, piece_layouts}
use Rattle.mt_box.specs.marks.RowParts.{on_stack}
use Rattle.mt_pieces.specs.inner.View.{AreLaid, piece_of, under}
use Rattle.mt_pieces.proofs.Laid.{laid_first, pushed_laid, pushed_piece, put_laid, put_view}
use Rattle.mt_pieces.proofs.pieces.Pieces.put_piece.Goals as goal

pub invariant_of-self : goal.invariant_of-self
invariant_of-self c =
    let p = c.put_part.ensures in
    let there : OnOk c.put_part.result (c.push_piece-laid.new.marks ≡ on_stack (piece_layouts c.args.piece) c.self.inside.marks) = laid_first _ c.put_part.result c.push_piece-laid.result p.laid c.push_piece-laid.ensures in
    let part = c.part_of-part.ensures.is in
    let laid = pushed_laid c.args.piece c.self.inside.marks c.requires (subst IsPartInRange part c.part_of-part.ensures.in_range) in
    put_laid c.put_part.result c.part_of-part.result c.self.inside.parts.items c.put_part.new.parts.items c.push_piece-laid.new.marks c.put_part.new.marks p.marks p.parts p.no_marks p.no_parts
    (on_ok_weaker c.put_part.result (λ m. subst (λ z. AreLaid (z ∷ reverse c.self.inside.parts.items) c.push_piece-laid.new.marks) (sym part)
    (subst (λ z. AreLaid (part_of c.args.piece ∷ reverse c.self.inside.parts.items) z) (sym m) (laid.0, subst (AreLaid (reverse c.self.inside.parts.items)) (sym laid.1) c.self.invariant))) there)

pub returns : goal.returns
returns c =
    let p = c.put_part.ensures in
    let there : OnOk c.put_part.result (c.push_piece-laid.new.marks ≡ on_stack (piece_layouts c.args.piece) c.self.inside.marks) = laid_first _ c.put_part.result c.push_piece-laid.result p.laid c.push_piece-laid.ensures in
    let part = c.part_of-part.ensures.is in
    let laid = pushed_laid c.args.piece c.self.inside.marks c.requires (subst IsPartInRange part c.part_of-part.ensures.in_range) in
    put_view c.put_part.result c.part_of-part.result c.self.inside.parts.items c.put_part.new.parts.items c.push_piece-laid.new.marks c.put_part.new.marks c.self.inside.marks c.args.self.now (piece_value c.args.piece) p.marks p.parts
    (on_ok_weaker c.put_part.result (λ m. ap (λ (z : RowPart). under z c.push_piece-laid.new.marks) part ∙ (ap (under (part_of c.args.piece)) m ∙ laid.1)) there)
    (on_ok_weaker c.put_part.result (λ m. ap (λ (z : RowPart). piece_of z (top c.push_piece-laid.new.marks)) part ∙ (ap (λ z. piece_of (part_of c.args.piece) (top z)) m ∙ pushed_piece c.args.piece c.self.inside.marks)) there) c.self.view_is
