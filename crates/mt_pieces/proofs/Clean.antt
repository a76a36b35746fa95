-- A lone box is clean.
use Rattle.std.proofs.Common.{◌≡◌, ℕ, ℤ, zero, suc, pos, negsuc, true, false, Ok, List, [], ◌∷◌, ◌++◌, reverse, take, drop, refl, sym, ◌∙◌, ap, subst, if◌then◌else◌}
use Rattle.std.proofs.lemmas.List.{reverse-reverse, take-append-drop}
use Rattle.mt_box.specs.declared.place.Place.{Place}
use Rattle.mt_box.specs.declared.marks.row.RowPiece.{RowPiece}
use Rattle.mt_box.specs.declared.marks.row.RowPart.{RowPart}
use Rattle.mt_box.specs.declared.marks.row.RowPart.TheVariants as part
use Rattle.mt_box.specs.Boxes.{clean_row, is_unraised}
use Rattle.mt_box.specs.Rows.{PieceValue, PieceBox, pack}
use Rattle.mt_box.specs.marks.Layers.{top}
use Rattle.mt_rules.specs.Nuclei.{make_clean}
use Rattle.mt_rules.specs.OnMarks.{layout_with}
use Rattle.mt_rules.specs.Setting.{Setting, make_box, pack_row}
use Rattle.mt_rules.proofs.Answering.{first_out-none, make_box-ok}
use Rattle.mt_pieces.specs.Putting.{boxed_on}
use Rattle.mt_pieces.specs.inner.LastParts.{is_lone_part}
use Rattle.mt_pieces.specs.inner.View.{AreLaid, IsBoxLaid, IsLaid, piece_of, pieces_back, under}
use Rattle.mt_pieces.proofs.Split.{split_at}

unraised : (r : ℤ) → is_unraised r ≡ true → r ≡ pos 0
unraised (pos zero) h = refl
unraised (pos (suc n)) h = absurd (let z : ⊥ = cc in z)
unraised (negsuc n) h = absurd (let z : ⊥ = cc in z)

-- a lone part that is a box which is not raised
record Lone (qs : List RowPart) : Type 0 where
  piece : RowPiece
  is : qs ≡ part.Layout piece ∷ []
  flat : piece.raise ≡ pos 0

lone_of : (qs : List RowPart) → is_lone_part qs ≡ true → Lone qs
lone_of [] h = absurd (let z : ⊥ = cc in z)
lone_of (part.Glyph f c e ∷ qs) h = absurd (let z : ⊥ = cc in z)
lone_of (part.Layout p ∷ []) h = record { piece = p; is = refl; flat = unraised p.raise h }
lone_of (part.Layout p ∷ q ∷ qs) h = absurd (let z : ⊥ = cc in z)
lone_of (part.Gap w ∷ qs) h = absurd (let z : ⊥ = cc in z)
lone_of (part.Space w s ∷ qs) h = absurd (let z : ⊥ = cc in z)

lone_near : (p : RowPiece) (ls : List (List Place)) → IsLaid (part.Layout p) ls → IsBoxLaid p
lone_near p [] h = absurd h
lone_near p (l ∷ ls) h = h

pub lone_stays : (ps : List RowPart) (n : ℕ) (ls : List (List Place)) (now : List PieceValue) → AreLaid (reverse ps) ls → pieces_back (reverse ps) ls ≡ now → is_lone_part (drop n ps) ≡ true
    → boxed_on (take n now) (make_clean (drop n now)) ≡ (let r : Setting (List PieceValue) = Ok now in r)
lone_stays ps n ls now h e lone =
    let s = split_at ps n ls now h e in
    let one = lone_of (drop n ps) lone in
    let p = one.piece in
    let l = layout_with p.extents (top ls) in
    let near = lone_near p ls (subst (λ z. AreLaid (reverse z ++ reverse (take n ps)) ls) one.is s.all).0 in
    let back : drop n now ≡ PieceBox (pos 0) l ∷ [] = sym s.back ∙ (ap (λ z. pieces_back (reverse z) ls) one.is ∙ ap (λ r. PieceBox r l ∷ []) one.flat) in
    let whole : take n now ++ PieceBox (pos 0) l ∷ [] ≡ now = ap (λ z. take n now ++ z) (sym back) ∙ take-append-drop n now in
    ap (λ z. boxed_on (take n now) (make_clean z)) back
    ∙ (ap (boxed_on (take n now)) (make_box-ok l (first_out-none p.extents near.extents))
    ∙ ap (λ (z : List PieceValue). (let r : Setting (List PieceValue) = Ok z in r)) whole)

two_clean : (ms : List PieceValue) (m n : PieceValue) → clean_row ((ms ++ m ∷ []) ++ n ∷ []) ≡ pack ((ms ++ m ∷ []) ++ n ∷ [])
two_clean [] m n = refl
two_clean (k ∷ []) m n = refl
two_clean (k ∷ j ∷ ms) m n = refl

back_clean : (bs : List RowPart) (ls : List (List Place)) → is_lone_part (reverse bs) ≡ false → clean_row (pieces_back bs ls) ≡ pack (pieces_back bs ls)
back_clean [] ls h = refl
back_clean (part.Glyph f c e ∷ []) ls h = refl
back_clean (part.Layout p ∷ []) ls h =
    let l = layout_with p.extents (top ls) in
    ap (λ b. if b then l else pack (PieceBox p.raise l ∷ [])) h
back_clean (part.Gap w ∷ []) ls h = refl
back_clean (part.Space w s ∷ []) ls h = refl
back_clean (b ∷ c ∷ bs) ls h = two_clean (pieces_back bs (under c (under b ls))) (piece_of c (top (under b ls))) (piece_of b (top ls))

pub packed_clean : (ps : List RowPart) (n : ℕ) (ls : List (List Place)) (now : List PieceValue) → AreLaid (reverse ps) ls → pieces_back (reverse ps) ls ≡ now → is_lone_part (drop n ps) ≡ false
    → pack_row (drop n now) ≡ make_clean (drop n now)
packed_clean ps n ls now h e lone =
    let s = split_at ps n ls now h e in
    let not : is_lone_part (reverse (reverse (drop n ps))) ≡ false = ap is_lone_part (reverse-reverse (drop n ps)) ∙ lone in
    ap make_box (sym (subst (λ z. clean_row z ≡ pack z) s.back (back_clean (reverse (drop n ps)) ls not)))
