-- Parts and their layers, with one more and with none.
use Rattle.std.proofs.Common.{◌≡◌, List, [], ◌∷◌, ◌++◌, length, length-append, reverse, Result, Ok, Err, OnOk, OnErr, IsOk, refl, sym, ◌∙◌, ap, subst, arith}
use Rattle.std.proofs.lemmas.List.{reverse-append}
use Rattle.std.specs.Prelude.{⊤}
use Rattle.std.specs.declared.alloc.AllocError.{AllocError}
use Rattle.mt_box.specs.declared.place.Place.{Place}
use Rattle.mt_box.specs.declared.marks.row.RowPart.{RowPart}
use Rattle.mt_box.specs.Rows.{PieceValue}
use Rattle.mt_box.specs.marks.Layers.{top}
use Rattle.mt_box.specs.declared.piece.Piece.{Piece}
use Rattle.mt_box.specs.declared.piece.Piece.TheVariants as piece
use Rattle.mt_box.specs.Rows.{piece_value, IsMeasurable}
use Rattle.mt_box.specs.marks.PieceParts.{part_of, piece_layouts, IsPartInRange}
use Rattle.mt_box.specs.marks.RowParts.{on_stack}
use Rattle.mt_pieces.specs.inner.View.{AreLaid, IsLaid, piece_of, pieces_back, under}

pub last_first : (ps : List RowPart) (p : RowPart) → reverse (ps ++ p ∷ []) ≡ p ∷ reverse ps
last_first ps p = reverse-append ps (p ∷ [])

-- with a part more, or none after a fault
pub put_laid : (r : Result ⊤ AllocError) (p : RowPart) (ps ps' : List RowPart) (ms ms' : List (List Place)) → OnOk r (ms' ≡ ms) → OnOk r (ps' ≡ ps ++ p ∷ [])
    → OnErr r (ms' ≡ []) → OnErr r (ps' ≡ []) → OnOk r (AreLaid (p ∷ reverse ps) ms) → AreLaid (reverse ps') ms'
put_laid (Ok u) p ps ps' ms ms' m q no_m no_q h =
    subst (λ z. AreLaid z ms') (sym (ap reverse q ∙ last_first ps p)) (subst (λ z. AreLaid (p ∷ reverse ps) z) (sym m) h)
put_laid (Err e) p ps ps' ms ms' m q no_m no_q h =
    subst (λ z. AreLaid z ms') (sym (ap reverse no_q)) no_m

pub put_view : (r : Result ⊤ AllocError) (p : RowPart) (ps ps' : List RowPart) (ms ms' ls : List (List Place)) (old : List PieceValue) (m : PieceValue) → OnOk r (ms' ≡ ms) → OnOk r (ps' ≡ ps ++ p ∷ [])
    → OnOk r (under p ms ≡ ls) → OnOk r (piece_of p (top ms) ≡ m) → pieces_back (reverse ps) ls ≡ old → OnOk r (pieces_back (reverse ps') ms' ≡ old ++ m ∷ [])
put_view (Ok u) p ps ps' ms ms' ls old m e q below same h =
    ap (λ z. pieces_back z ms') (ap reverse q ∙ last_first ps p)
    ∙ (ap (pieces_back (p ∷ reverse ps)) e
    ∙ (ap (λ z. pieces_back (reverse ps) z ++ piece_of p (top ms) ∷ []) below
    ∙ (ap (λ z. z ++ piece_of p (top ms) ∷ []) h ∙ ap (λ z. old ++ z ∷ []) same)))
put_view (Err f) p ps ps' ms ms' ls old m e q below same h = tt

pub length_back : (ps : List RowPart) (ls : List (List Place)) → length (pieces_back ps ls) ≡ length ps
length_back [] ls = refl
length_back (p ∷ ps) ls = omega (arith, length-append (pieces_back ps (under p ls)) (piece_of p (top ls) ∷ []), length_back ps (under p ls))

-- what holds where a layer was laid
pub laid_first : {T E F : Type 0} → (P : Type 0) (r : Result T E) (laid : Result ⊤ F) → OnOk r (IsOk laid) → OnOk laid P → OnOk r P
laid_first P (Ok u) (Ok v) h k = k
laid_first P (Ok u) (Err e) h k = absurd (let z : ⊥ = cc in z)
laid_first P (Err e) laid h k = tt

-- the part and the layer of a piece
pub pushed_laid : (p : Piece) (ls : List (List Place)) → IsMeasurable p → IsPartInRange (part_of p) → IsLaid (part_of p) (on_stack (piece_layouts p) ls) × (under (part_of p) (on_stack (piece_layouts p) ls) ≡ ls)
pushed_laid (piece.Glyph f c e) ls h in_range = (record { places = refl; width = h.0; height = h.1; depth = h.2 }, refl)
pushed_laid (piece.Boxed r b) ls h in_range = (record { extents = in_range; raise = h }, refl)
pushed_laid (piece.Kern k) ls h in_range = (h, refl)
pushed_laid (piece.Space w s) ls h in_range = (h, refl)

pub pushed_piece : (p : Piece) (ls : List (List Place)) → piece_of (part_of p) (top (on_stack (piece_layouts p) ls)) ≡ piece_value p
pushed_piece (piece.Glyph f c e) ls = refl
pushed_piece (piece.Boxed r b) ls = refl
pushed_piece (piece.Kern k) ls = refl
pushed_piece (piece.Space w s) ls = refl
