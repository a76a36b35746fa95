use Rattle.std.proofs.Common.{◌∙◌, ◌++◌, ◌∷◌, [], ap, sym, subst, refl, reverse}
use Rattle.mt_box.specs.declared.marks.row.RowPiece.{RowPiece}
use Rattle.mt_box.specs.Rows.{PieceBox}
use Rattle.mt_pieces.specs.inner.View.{IsBoxLaid}
use Rattle.mt_pieces.specs.inner.LastParts.{last_box}
use Rattle.mt_pieces.proofs.LastPieces.{last_of, changed_laid, raised_view}
use Rattle.mt_pieces.proofs.pieces.Pieces.raise_last.Goals as goal

pub set_last-requires : goal.set_last-requires
set_last-requires c = (last_of c.self.inside.parts.items _ c.self.inside.marks c.in-Some.piece c.self.invariant (ap (λ z. last_box (reverse z)) (sym c.deref.ensures.value) ∙ (sym c.last_box.ensures ∙ c.in-Some.is)) refl).some

pub invariant_of-self : goal.invariant_of-self
invariant_of-self c = changed_laid c.self.inside.parts.items c.set_last.new.parts.items c.self.inside.marks c.in-Some.piece c.raised.result c.self.invariant (ap (λ z. last_box (reverse z)) (sym c.deref.ensures.value) ∙ (sym c.last_box.ensures ∙ c.in-Some.is)) c.set_last.ensures (λ h. subst IsBoxLaid (sym c.raised.ensures) (record { extents = h.extents; raise = c.requires }))

pub returns-in-Some : goal.returns-in-Some
returns-in-Some c = λ rest raise l e.
    raised_view c.self.inside.parts.items c.set_last.new.parts.items c.self.inside.marks c.in-Some.piece c.raised.result c.args.self.now rest raise l c.self.invariant (ap (λ z. last_box (reverse z)) (sym c.deref.ensures.value) ∙ (sym c.last_box.ensures ∙ c.in-Some.is)) c.set_last.ensures c.self.view_is e (ap (λ (z : RowPiece). z.extents) c.raised.ensures)
    ∙ ap (λ (z : RowPiece). rest ++ PieceBox z.raise l ∷ []) c.raised.ensures
