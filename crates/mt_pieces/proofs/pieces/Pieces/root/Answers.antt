use Rattle.std.proofs.Common.{◌∙◌, ◌-◌, ℤ, pos, List, [], ◌∷◌, length, reverse, Result, Ok, Err, refl, sym, ap}
use Rattle.std.specs.Prelude.{⊤}
use Rattle.std.specs.declared.alloc.AllocError.{AllocError}
use Rattle.mt_box.specs.Layout.{Layout}
use Rattle.std.proofs.lemmas.Result.{err_from_is_err_and}
use Rattle.mt_box.specs.Rows.{PieceValue, PieceBox, PieceKern}
use Rattle.mt_box.specs.declared.error.PackError.{PackError}
use Rattle.mt_box.specs.declared.piece.Piece.{Piece}
use Rattle.mt_rules.specs.Roots.{degree_raise, root_row}
use Rattle.mt_rules.specs.Setting.{Setting}
use Rattle.mt_parts.proofs.Rooting.{row_fault}
use Rattle.mt_pieces.specs.inner.LastParts.{last_two}
use Rattle.mt_pieces.proofs.LastPieces.{two_of, two_are, not_two}
use Rattle.mt_pieces.proofs.RootRows.{root_fails, root_laid, root_set}
use Rattle.mt_pieces.proofs.pieces.Pieces.root.Goals as goal

pub raise_of_degree-raise-requires : goal.raise_of_degree-raise-requires
raise_of_degree-raise-requires c = (two_of c.self.inside.parts.items (length c.self.inside.parts.items - 2) c.self.inside.marks c.in-Some.boxes c.self.invariant (ap (λ z. last_two (reverse z)) (sym c.deref.ensures.value) ∙ (sym c.last_two.ensures ∙ c.in-Some.is)) refl).second.extents

pub returns-in_default : goal.returns-in_default
returns-in_default c = λ rest n d e. absurd (not_two (reverse c.self.inside.parts.items) c.self.inside.marks c.args.self.now rest (pos 0) (pos 0) n d (ap (λ z. last_two (reverse z)) (sym c.deref.ensures.value) ∙ (sym c.last_two.ensures ∙ c.in_default.is)) c.self.view_is e)

pub returns-in_err-kerns : goal.returns-in_err-kerns
returns-in_err-kerns c = λ rest d r e.
    let p = err_from_is_err_and c.from_residual.result c.from_residual.ensures.1 in
    rw p.1 (root_fails c.in_err-kerns.field-0.0 p.0 rest c.args.self.now (root_row c.args.fonts.now c.args.style d r) p.2 (row_fault c.args.fonts.now c.args.style d r (let k : Result (List Piece) PackError = Err c.in_err-kerns.field-0.0 in k) c.in_err-kerns.field-0.0 refl c.in_err-kerns.ensures.is))

pub invariant_of-self : goal.invariant_of-self
invariant_of-self c =
    let e = c.put_root.ensures in
    root_laid c.put_root.result c.self.inside.parts.items c.put_root.new.parts.items (length c.self.inside.parts.items - 2) c.self.inside.marks c.put_root.new.marks c.in-Some.boxes c.in_ok-kerns.kerns.before.sp c.in_ok-kerns.kerns.behind.sp c.raise_of_degree-raise.result.sp (two_of c.self.inside.parts.items (length c.self.inside.parts.items - 2) c.self.inside.marks c.in-Some.boxes c.self.invariant (ap (λ z. last_two (reverse z)) (sym c.deref.ensures.value) ∙ (sym c.last_two.ensures ∙ c.in-Some.is)) refl) e.marks e.parts e.no_marks e.no_parts
    c.in_ok-kerns.ensures.before c.in_ok-kerns.ensures.behind c.raise_of_degree-raise.ensures.small

pub invariant_of-self-2 : goal.invariant_of-self-2
invariant_of-self-2 c =
    let e = c.put_root.ensures in
    root_laid c.put_root.result c.self.inside.parts.items c.put_root.new.parts.items (length c.self.inside.parts.items - 2) c.self.inside.marks c.put_root.new.marks c.in-Some.boxes c.in_ok-kerns.kerns.before.sp c.in_ok-kerns.kerns.behind.sp c.raise_of_degree-raise.result.sp (two_of c.self.inside.parts.items (length c.self.inside.parts.items - 2) c.self.inside.marks c.in-Some.boxes c.self.invariant (ap (λ z. last_two (reverse z)) (sym c.deref.ensures.value) ∙ (sym c.last_two.ensures ∙ c.in-Some.is)) refl) e.marks e.parts e.no_marks e.no_parts
    c.in_ok-kerns.ensures.before c.in_ok-kerns.ensures.behind c.raise_of_degree-raise.ensures.small

pub returns : goal.returns
returns c = λ rest d r e.
    let k = c.in_ok-kerns.kerns in
    let b = (two_of c.self.inside.parts.items (length c.self.inside.parts.items - 2) c.self.inside.marks c.in-Some.boxes c.self.invariant (ap (λ z. last_two (reverse z)) (sym c.deref.ensures.value) ∙ (sym c.last_two.ensures ∙ c.in-Some.is)) refl) in
    let t = two_are c.self.inside.parts.items (length c.self.inside.parts.items - 2) c.self.inside.marks c.in-Some.boxes c.args.self.now rest (pos 0) (pos 0) d r b c.self.view_is e in
    let s = c.in_ok-kerns.ensures.is in
    let raise = c.raise_of_degree-raise.ensures.is ∙ ap (λ (z : Layout). degree_raise z.extents) t.second in
    root_set (let r : Result ⊤ AllocError = Ok tt in r) c.self.inside.parts.items c.put_root.new.parts.items (length c.self.inside.parts.items - 2) c.self.inside.marks c.put_root.new.marks c.in-Some.boxes k.before.sp k.behind.sp c.raise_of_degree-raise.result.sp rest d r
    (root_row c.args.fonts.now c.args.style d r) c.in_ok-put_root.ensures.marks c.in_ok-put_root.ensures.parts b t
    (s d r ∙ ap (λ (z : ℤ). (let w : Setting (List PieceValue) = Ok (PieceKern k.before.sp ∷ PieceBox z d ∷ PieceKern k.behind.sp ∷ PieceBox (pos 0) r ∷ []) in w)) (sym raise))
