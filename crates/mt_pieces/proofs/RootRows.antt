-- The row of a root in place of the last two pieces.
use Rattle.std.specs.Prelude.{⊤}
use Rattle.std.proofs.Common.{◌≡◌, ℕ, ℤ, ◌^◌, pos, List, [], ◌∷◌, ◌++◌, reverse, take, Result, Ok, Err, OnOk, OnErr, refl, arith, sym, ◌∙◌, ap, subst}
use Rattle.std.proofs.lemmas.Int.{ints}
use Rattle.std.proofs.lemmas.List.{reverse-append}
use Rattle.std.specs.declared.alloc.AllocError.{AllocError}
use Rattle.mt_scaled.specs.Number.{Within, max_dimen}
use Rattle.mt_box.specs.declared.place.Place.{Place}
use Rattle.mt_box.specs.declared.error.PackError.{PackError}
use Rattle.mt_box.specs.declared.error.PackError.TheVariants.{Overflow as PackOverflow, OutOfMemory as NoPackMemory}
use Rattle.mt_box.specs.declared.marks.row.RowPart.{RowPart}
use Rattle.mt_box.specs.Layout.{Layout}
use Rattle.mt_box.specs.Rows.{PieceValue, PieceBox, PieceKern}
use Rattle.mt_box.specs.marks.Layers.{dropped, top}
use Rattle.mt_rules.specs.declared.part_error.PartError.{PartError}
use Rattle.mt_rules.specs.Calls.{RowAnswers}
use Rattle.mt_rules.specs.OnMarks.{layout_with}
use Rattle.mt_rules.specs.PartErrors.{FromPacking}
use Rattle.mt_rules.specs.Setting.{Setting}
use Rattle.mt_pieces.specs.Putting.{row_on, SetsPieces}
use Rattle.mt_pieces.specs.declared.last.TwoBoxes.{TwoBoxes}
use Rattle.mt_pieces.specs.inner.View.{AreLaid, pieces_back, root_parts}
use Rattle.mt_pieces.proofs.LastPieces.{LastTwo, TwoPieces}

pub root_fails : (e : PackError) (f : PartError) (rest new : List PieceValue) (setting : Setting (List PieceValue)) → FromPacking e f → RowAnswers (Err e) setting → SetsPieces (let r : Result ⊤ PartError = Err f in r) new (row_on rest setting)
root_fails (PackOverflow value) f rest new setting h k = rw h (ap (row_on rest) k)
root_fails NoPackMemory f rest new setting h k = rw h tt

parts_last : (ps : List RowPart) (b : TwoBoxes) (x y z : ℤ) → reverse (ps ++ root_parts b x y z) ≡ reverse (root_parts b x y z) ++ reverse ps
parts_last ps b x y z = reverse-append ps (root_parts b x y z)

near_kern : (x : ℤ) → Within max_dimen x → Within (2 ^ 40) x
near_kern x h = record { low = omega (arith, ints, h.low); high = omega (arith, ints, h.high) }

near_raise : (x : ℤ) → Within (2 ^ 31) x → Within (2 ^ 40) x
near_raise x h = record { low = omega (arith, ints, h.low); high = omega (arith, ints, h.high) }

pub root_laid : (r : Result ⊤ AllocError) (ps ps' : List RowPart) (keep : ℕ) (ls ls' : List (List Place)) (b : TwoBoxes) (x y z : ℤ) → LastTwo ps keep ls b → OnOk r (ls' ≡ ls) → OnOk r (ps' ≡ take keep ps ++ root_parts b x y z)
    → OnErr r (ls' ≡ []) → OnErr r (ps' ≡ []) → Within max_dimen x → Within max_dimen y → Within (2 ^ 31) z → AreLaid (reverse ps') ls'
root_laid (Err f) ps ps' keep ls ls' b x y z two m q no_m no_q hx hy hz = subst (λ z. AreLaid z ls') (sym (ap reverse no_q)) no_m
root_laid (Ok u) ps ps' keep ls ls' b x y z two m q no_m no_q hx hy hz =
    let flat : Within (2 ^ 40) (pos 0) = record { low = omega (arith, ints); high = omega (arith, ints) } in
    let laid : AreLaid (reverse (root_parts b x y z) ++ reverse (take keep ps)) (top ls ∷ top (dropped ls) ∷ dropped (dropped ls)) =
    (record { extents = two.second.extents; raise = flat }, (near_kern y hy, (record { extents = two.first.extents; raise = near_raise z hz }, (near_kern x hx, two.laid)))) in
    subst (λ k. AreLaid k ls') (sym (ap reverse q ∙ parts_last (take keep ps) b x y z))
    (subst (AreLaid (reverse (root_parts b x y z) ++ reverse (take keep ps))) (sym (m ∙ two.layers)) laid)

four_more : {A : Type 0} → (xs : List A) (a b c d : A) → (((xs ++ a ∷ []) ++ b ∷ []) ++ c ∷ []) ++ d ∷ [] ≡ xs ++ a ∷ b ∷ c ∷ d ∷ []
four_more [] a b c d = refl
four_more (x ∷ xs) a b c d = ap (λ r. x ∷ r) (four_more xs a b c d)

pub root_set : (r : Result ⊤ AllocError) (ps ps' : List RowPart) (keep : ℕ) (ls ls' : List (List Place)) (b : TwoBoxes) (x y z : ℤ) (rest : List PieceValue) (d k : Layout) (setting : Setting (List PieceValue)) → OnOk r (ls' ≡ ls) → OnOk r (ps' ≡ take keep ps ++ root_parts b x y z)
    → LastTwo ps keep ls b → TwoPieces ps keep ls b rest d k
    → setting ≡ Ok (PieceKern x ∷ PieceBox z d ∷ PieceKern y ∷ PieceBox (pos 0) k ∷ []) → OnOk r (row_on rest setting ≡ (let r : Setting (List PieceValue) = Ok (pieces_back (reverse ps') ls') in r))
root_set (Err f) ps ps' keep ls ls' b x y z rest d k setting m q two t h = tt
root_set (Ok u) ps ps' keep ls ls' b x y z rest d k setting m q two t h =
    let view : pieces_back (reverse ps') ls' ≡ rest ++ PieceKern x ∷ PieceBox z d ∷ PieceKern y ∷ PieceBox (pos 0) k ∷ [] =
    ap (λ w. pieces_back w ls') (ap reverse q ∙ parts_last (take keep ps) b x y z)
    ∙ (ap (pieces_back (reverse (root_parts b x y z) ++ reverse (take keep ps))) (m ∙ two.layers)
    ∙ (four_more (pieces_back (reverse (take keep ps)) (dropped (dropped ls))) (PieceKern x) (PieceBox z (layout_with b.first.extents (top (dropped ls)))) (PieceKern y) (PieceBox (pos 0) (layout_with b.second.extents (top ls)))
    ∙ (ap (λ w. w ++ PieceKern x ∷ PieceBox z (layout_with b.first.extents (top (dropped ls))) ∷ PieceKern y ∷ PieceBox (pos 0) (layout_with b.second.extents (top ls)) ∷ []) t.rest
    ∙ (ap (λ w. rest ++ PieceKern x ∷ PieceBox z w ∷ PieceKern y ∷ PieceBox (pos 0) (layout_with b.second.extents (top ls)) ∷ []) t.first
    ∙ ap (λ w. rest ++ PieceKern x ∷ PieceBox z d ∷ PieceKern y ∷ PieceBox (pos 0) w ∷ []) t.second)))) in
    ap (row_on rest) h ∙ ap (λ (w : List PieceValue). (let r : Setting (List PieceValue) = Ok w in r)) (sym view)
