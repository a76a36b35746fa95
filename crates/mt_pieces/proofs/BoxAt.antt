-- A piece among others that is a box: its part and its layer.
use Rattle.std.proofs.Common.{◌≡◌, ℕ, suc, ℤ, ◌-◌, ◌<◌, List, [], ◌∷◌, ◌++◌, length, length-append, reverse, take, drop, arith, refl, sym, ◌∙◌, ap}
use Rattle.std.proofs.lemmas.List.{drop_at, length-drop, length-reverse}
use Rattle.mt_box.specs.declared.place.Place.{Place}
use Rattle.mt_box.specs.declared.marks.row.RowPiece.{RowPiece}
use Rattle.mt_box.specs.declared.marks.row.RowPart.{RowPart}
use Rattle.mt_box.specs.declared.marks.row.RowPart.TheVariants as part
use Rattle.mt_box.specs.Layout.{Layout}
use Rattle.mt_box.specs.Rows.{PieceValue, PieceBox}
use Rattle.mt_box.specs.marks.Layers.{top}
use Rattle.mt_rules.specs.OnMarks.{layout_with}
use Rattle.mt_pieces.specs.Runs.{layers_of}
use Rattle.mt_pieces.specs.inner.View.{AreLaid, piece_of, pieces_back, under}
use Rattle.mt_pieces.proofs.Copied.{RunOf, run_of}
use Rattle.mt_pieces.proofs.Laid.{last_first, length_back}
use Rattle.mt_pieces.proofs.LastPieces.{same_ends}
use Rattle.mt_pieces.proofs.Moved.{layer_count}

record IsBoxPart (p : RowPart) (places : List Place) (l : Layout) : Type 0 where
  pub piece : RowPiece
  pub is : p ≡ part.Layout piece
  pub extents : piece.extents ≡ l.extents
  pub places_are : places ≡ l.places

box_part : (p : RowPart) (x : List Place) (r : ℤ) (l : Layout) → piece_of p x ≡ PieceBox r l → IsBoxPart p x l
box_part (part.Glyph f c e) x r l h = absurd (let z : ⊥ = cc in z)
box_part (part.Layout q) x r l h =
    let same : layout_with q.extents x ≡ l = cc in
    record { piece = q; is = refl; extents = ap (λ (z : Layout). z.extents) same; places_are = ap (λ (z : Layout). z.places) same }
box_part (part.Gap w) x r l h = absurd (let z : ⊥ = cc in z)
box_part (part.Space w s) x r l h = absurd (let z : ⊥ = cc in z)

only : (ls : List (List Place)) → length ls ≡ 1 → ls ≡ top ls ∷ []
only [] e = absurd (omega (arith, e))
only (l ∷ []) e = refl
only (l ∷ k ∷ ls) e = absurd (omega (arith, e))

-- its part, and its layer among the others
pub record BoxAt (ps : List RowPart) (ls : List (List Place)) (now : List PieceValue) (n : ℕ) (l : Layout) : Type 0 where
  pub piece : RowPiece
  pub rest : List RowPart
  pub parts : drop n ps ≡ part.Layout piece ∷ rest
  pub extents : piece.extents ≡ l.extents
  pub above : List (List Place)
  pub below : List (List Place)
  pub stack : ls ≡ above ++ l.places ∷ below
  pub before : length below ≡ layers_of (take n now)

pub box_at : (ps : List RowPart) (ls : List (List Place)) (now before rest : List PieceValue) (n : ℕ) (r : ℤ) (l : Layout) → AreLaid (reverse ps) ls → pieces_back (reverse ps) ls ≡ now → now ≡ before ++ PieceBox r l ∷ rest → length before ≡ n → BoxAt ps ls now n l
box_at ps ls now before rest n r l h v w k =
    let many : length now ≡ length ps = sym (ap length v) ∙ (length_back (reverse ps) ls ∙ length-reverse ps) in
    let less : n < length ps = omega (arith, sym many ∙ ap length w, length-append before (PieceBox r l ∷ rest), k) in
    by_run (run_of ps ls now n (suc n) h v (omega arith) (omega (arith, less))) (drop n ps) refl (omega (arith, less, length-drop n ps))
  where
    one : suc n - n ≡ 1
    one = omega arith

    by_run : RunOf ps ls now n (suc n) → (qs : List RowPart) → drop n ps ≡ qs → 0 < length qs → BoxAt ps ls now n l
    by_run run [] e some = absurd (omega (arith, some))
    by_run run (p ∷ qs) e some =
        let mine : take (suc n - n) (drop n ps) ≡ p ∷ [] = ap (λ i. take i (drop n ps)) one ∙ ap (take 1) e in
        let its : take (suc n - n) (drop n now) ≡ PieceBox r l ∷ [] = ap (λ i. take i (drop n now)) one ∙ ap (take 1) (ap (drop n) w ∙ drop_at before (PieceBox r l ∷ rest) n k) in
        let view : pieces_back (p ∷ reverse ps) (run.run ++ ls) ≡ now ++ PieceBox r l ∷ [] =
        ap (λ z. pieces_back z (run.run ++ ls)) (sym (last_first ps p)) ∙ (ap (λ z. pieces_back (reverse (ps ++ z)) (run.run ++ ls)) (sym mine) ∙ (run.view ∙ ap (λ z. now ++ z) its)) in
        let last = (same_ends (pieces_back (reverse ps) (under p (run.run ++ ls))) now (piece_of p (top (run.run ++ ls))) (PieceBox r l) view).last in
        let b = box_part p (top (run.run ++ ls)) r l last in
        let single : run.run ≡ top run.run ∷ [] = only run.run (run.some ∙ (ap layer_count (mine ∙ ap (λ z. z ∷ []) b.is))) in
        let layer : run.run ≡ l.places ∷ [] = single ∙ ap (λ z. z ∷ []) (sym (ap (λ z. top (z ++ ls)) single) ∙ b.places_are) in
        record {
          piece = b.piece;
          rest = qs;
          parts = e ∙ ap (λ z. z ∷ qs) b.is;
          extents = b.extents;
          above = run.above;
          below = run.below;
          stack = run.stack ∙ ap (λ z. run.above ++ (z ++ run.below)) layer;
          before = run.before;
        }
