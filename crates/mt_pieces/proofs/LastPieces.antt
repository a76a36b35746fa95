-- The last piece.
use Rattle.std.proofs.Common.{◌≡◌, ℕ, ◌+◌, ◌-◌, ◌≤◌, ◌<◌, suc, ℤ, List, [], ◌∷◌, ◌++◌, Some, None, length, length-append, append_assoc, reverse, take, drop, set, get_or, refl, sym, ◌∙◌, ap, subst, arith}
use Rattle.std.proofs.lemmas.List.{drop_all, length-reverse, reverse-append, reverse-reverse, set_split, length-take-le, take-take, take_all, take_at, take_more}
use Rattle.std.proofs.lemmas.Option.{none-some, same_Some}
use Rattle.mt_box.specs.declared.place.Place.{Place}
use Rattle.mt_box.specs.declared.marks.row.RowPiece.{RowPiece}
use Rattle.mt_box.specs.declared.marks.row.RowPart.{RowPart}
use Rattle.mt_box.specs.declared.marks.row.RowPart.TheVariants as part
use Rattle.mt_box.specs.Layout.{Layout}
use Rattle.mt_box.specs.Rows.{PieceValue, PieceBox}
use Rattle.mt_box.specs.marks.Layers.{dropped, top}
use Rattle.mt_rules.specs.OnMarks.{layout_with}
use Rattle.mt_pieces.specs.declared.last.TwoBoxes.{TwoBoxes}
use Rattle.mt_pieces.specs.inner.LastParts.{last_box, last_two}
use Rattle.mt_pieces.specs.inner.View.{AreLaid, IsBoxLaid, IsLaid, piece_of, pieces_back}
use Rattle.mt_pieces.proofs.Laid.{last_first}

-- ---- the last item of a list

pub last_apart : (ps : List RowPart) (p : RowPart) (qs : List RowPart) → reverse ps ≡ p ∷ qs → qs ≡ reverse (take (length ps - 1) ps)
last_apart ps p qs e =
    let w : ps ≡ reverse qs ++ p ∷ [] = sym (reverse-reverse ps) ∙ (ap reverse e ∙ reverse-append (p ∷ []) qs) in
    let n : length ps ≡ length (reverse qs) + 1 = ap length w ∙ length-append (reverse qs) (p ∷ []) in
    let k : length ps - 1 ≡ length (reverse qs) = omega (arith, n) in
    let t : take (length ps - 1) ps ≡ reverse qs = ap (λ z. take z ps) k ∙ (ap (take (length (reverse qs))) w ∙ take_at (reverse qs) (p ∷ []) (length (reverse qs)) refl) in
    sym (ap reverse t ∙ reverse-reverse qs)

pub last_changed : (ps : List RowPart) (i : ℕ) (p : RowPart) → 1 ≤ length ps → i ≡ length ps - 1 → reverse (set ps i p) ≡ p ∷ drop 1 (reverse ps)
last_changed ps i p h e =
    let lt : i < length ps = omega (arith, h, e) in
    let new : set ps i p ≡ take i ps ++ p ∷ [] = set_split ps i p lt ∙ ap (λ r. take i ps ++ p ∷ r) (drop_all (suc i) ps (omega (arith, h, e))) in
    let d = get_or ps i p in
    let old : ps ≡ take i ps ++ d ∷ [] = sym (take_all (i + 1) ps (omega (arith, h, e))) ∙ take_more ps i p lt in
    ap reverse new ∙ (last_first (take i ps) p ∙ ap (λ r. p ∷ r) (sym (ap (λ z. drop 1 (reverse z)) old ∙ ap (drop 1) (last_first (take i ps) d))))

pub record SameEnds {A : Type 0} (xs ys : List A) (x y : A) : Type 0 where
  pub front : xs ≡ ys
  pub last : x ≡ y

pub same_ends : {A : Type 0} → (xs ys : List A) (x y : A) → xs ++ x ∷ [] ≡ ys ++ y ∷ [] → SameEnds xs ys x y
same_ends xs ys x y e =
    let r : x ∷ reverse xs ≡ y ∷ reverse ys = sym (reverse-append xs (x ∷ [])) ∙ (ap reverse e ∙ reverse-append ys (y ∷ [])) in
    let same : reverse xs ≡ reverse ys = cc in
    record { front = sym (reverse-reverse xs) ∙ (ap reverse same ∙ reverse-reverse ys); last = cc }

-- ---- the last part, a box

pub record LastBox (ps : List RowPart) (keep : ℕ) (ls : List (List Place)) (p : RowPiece) : Type 0 where
  pub layers : ls ≡ top ls ∷ dropped ls
  pub laid : AreLaid (reverse (take keep ps)) (dropped ls)
  pub box : IsBoxLaid p
  pub view : pieces_back (reverse ps) ls ≡ pieces_back (reverse (take keep ps)) (dropped ls) ++ PieceBox p.raise (layout_with p.extents (top ls)) ∷ []
  pub some : 1 ≤ length ps
  pub parts : reverse ps ≡ part.Layout p ∷ reverse (take keep ps)

first_box : (qs : List RowPart) (p : RowPiece) → last_box qs ≡ Some p → qs ≡ part.Layout p ∷ drop 1 qs
first_box [] p e = absurd (none-some p e)
first_box (part.Glyph f c x ∷ qs) p e = absurd (none-some p e)
first_box (part.Layout q ∷ qs) p e = ap (λ (z : RowPiece). part.Layout z ∷ qs) (same_Some q p e)
first_box (part.Gap w ∷ qs) p e = absurd (none-some p e)
first_box (part.Space w s ∷ qs) p e = absurd (none-some p e)

laid_box : (p : RowPiece) (ls : List (List Place)) → IsLaid (part.Layout p) ls → (ls ≡ top ls ∷ dropped ls) × IsBoxLaid p
laid_box p [] h = absurd h
laid_box p (l ∷ ls) h = (refl, h)

pub last_of : (ps : List RowPart) (keep : ℕ) (ls : List (List Place)) (p : RowPiece) → AreLaid (reverse ps) ls → last_box (reverse ps) ≡ Some p → keep ≡ length ps - 1 → LastBox ps keep ls p
last_of ps keep ls p h e k =
    let first = first_box (reverse ps) p e in
    let rest = last_apart ps (part.Layout p) (drop 1 (reverse ps)) first ∙ ap (λ z. reverse (take z ps)) (sym k) in
    let parts : reverse ps ≡ part.Layout p ∷ reverse (take keep ps) = first ∙ ap (λ z. part.Layout p ∷ z) rest in
    let both : AreLaid (part.Layout p ∷ reverse (take keep ps)) ls = subst (λ z. AreLaid z ls) parts h in
    let l = laid_box p ls both.0 in
    record {
      layers = l.0;
      laid = both.1;
      box = l.1;
      view = ap (λ z. pieces_back z ls) parts;
      some = omega (arith, length-reverse ps, ap length first);
      parts = parts;
    }

-- it is the last piece
pub record LastPiece (ps : List RowPart) (keep : ℕ) (ls : List (List Place)) (p : RowPiece) (before : List PieceValue) (r : ℤ) (l : Layout) : Type 0 where
  pub rest : pieces_back (reverse (take keep ps)) (dropped ls) ≡ before
  pub raise : p.raise ≡ r
  pub layout : layout_with p.extents (top ls) ≡ l

pub last_is : (ps : List RowPart) (keep : ℕ) (ls : List (List Place)) (p : RowPiece) (now before : List PieceValue) (r : ℤ) (l : Layout) → LastBox ps keep ls p → pieces_back (reverse ps) ls ≡ now → now ≡ before ++ PieceBox r l ∷ []
    → LastPiece ps keep ls p before r l
last_is ps keep ls p now before r l h v e =
    let ends = same_ends (pieces_back (reverse (take keep ps)) (dropped ls)) before (PieceBox p.raise (layout_with p.extents (top ls))) (PieceBox r l) (sym h.view ∙ (v ∙ e)) in
    let last : PieceBox p.raise (layout_with p.extents (top ls)) ≡ PieceBox r l = ends.last in
    record { rest = ends.front; raise = cc; layout = cc }

-- or the last piece is no box
pub no_box : (qs : List RowPart) (ls : List (List Place)) (now before : List PieceValue) (r : ℤ) (l : Layout) → last_box qs ≡ None → pieces_back qs ls ≡ now → now ≡ before ++ PieceBox r l ∷ [] → ⊥
no_box [] ls now before r l h v e = absurd (omega (arith, ap length (v ∙ e), length-append before (PieceBox r l ∷ [])))
no_box (part.Glyph f c x ∷ qs) ls now before r l h v e =
    let last = (same_ends (pieces_back qs (dropped ls)) before (piece_of (part.Glyph f c x) (top ls)) (PieceBox r l) (v ∙ e)).last in cc
no_box (part.Layout p ∷ qs) ls now before r l h v e = absurd (none-some p (sym h))
no_box (part.Gap w ∷ qs) ls now before r l h v e =
    let last = (same_ends (pieces_back qs ls) before (piece_of (part.Gap w) (top ls)) (PieceBox r l) (v ∙ e)).last in cc
no_box (part.Space w s ∷ qs) ls now before r l h v e =
    let last = (same_ends (pieces_back qs ls) before (piece_of (part.Space w s) (top ls)) (PieceBox r l) (v ∙ e)).last in cc

-- ---- the last box with another raise, and with other extents

changed_back : (ps ps' : List RowPart) (ls : List (List Place)) (p q : RowPiece) → AreLaid (reverse ps) ls → last_box (reverse ps) ≡ Some p → reverse ps' ≡ part.Layout q ∷ drop 1 (reverse ps)
    → reverse ps' ≡ part.Layout q ∷ reverse (take (length ps - 1) ps)
changed_back ps ps' ls p q h e c =
    c ∙ ap (λ z. part.Layout q ∷ drop 1 z) (last_of ps (length ps - 1) ls p h e refl).parts

pub changed_laid : (ps ps' : List RowPart) (ls : List (List Place)) (p q : RowPiece) → AreLaid (reverse ps) ls → last_box (reverse ps) ≡ Some p → reverse ps' ≡ part.Layout q ∷ drop 1 (reverse ps) → (IsBoxLaid p → IsBoxLaid q)
    → AreLaid (reverse ps') ls
changed_laid ps ps' ls p q h e c near =
    let b = last_of ps (length ps - 1) ls p h e refl in
    subst (λ z. AreLaid z ls) (sym (changed_back ps ps' ls p q h e c))
    (subst (AreLaid (part.Layout q ∷ reverse (take (length ps - 1) ps))) (sym b.layers) (near b.box, b.laid))

pub raised_view : (ps ps' : List RowPart) (ls : List (List Place)) (p q : RowPiece) (now before : List PieceValue) (r : ℤ) (l : Layout) → AreLaid (reverse ps) ls → last_box (reverse ps) ≡ Some p → reverse ps' ≡ part.Layout q ∷ drop 1 (reverse ps)
    → pieces_back (reverse ps) ls ≡ now → now ≡ before ++ PieceBox r l ∷ [] → q.extents ≡ p.extents → pieces_back (reverse ps') ls ≡ before ++ PieceBox q.raise l ∷ []
raised_view ps ps' ls p q now before r l h e c v w same =
    let b = last_of ps (length ps - 1) ls p h e refl in
    let t = last_is ps (length ps - 1) ls p now before r l b v w in
    ap (λ z. pieces_back z ls) (changed_back ps ps' ls p q h e c)
    ∙ (ap (λ z. z ++ PieceBox q.raise (layout_with q.extents (top ls)) ∷ []) t.rest
    ∙ (ap (λ z. before ++ PieceBox q.raise (layout_with z (top ls)) ∷ []) same
    ∙ ap (λ z. before ++ PieceBox q.raise z ∷ []) t.layout))

pub extended_view : (ps ps' : List RowPart) (ls : List (List Place)) (p q : RowPiece) (now before : List PieceValue) (r : ℤ) (l : Layout) → AreLaid (reverse ps) ls → last_box (reverse ps) ≡ Some p → reverse ps' ≡ part.Layout q ∷ drop 1 (reverse ps)
    → pieces_back (reverse ps) ls ≡ now → now ≡ before ++ PieceBox r l ∷ [] → q.raise ≡ p.raise → pieces_back (reverse ps') ls ≡ before ++ PieceBox r (layout_with q.extents l.places) ∷ []
extended_view ps ps' ls p q now before r l h e c v w same =
    let b = last_of ps (length ps - 1) ls p h e refl in
    let t = last_is ps (length ps - 1) ls p now before r l b v w in
    ap (λ z. pieces_back z ls) (changed_back ps ps' ls p q h e c)
    ∙ (ap (λ z. z ++ PieceBox q.raise (layout_with q.extents (top ls)) ∷ []) t.rest
    ∙ (ap (λ z. before ++ PieceBox z (layout_with q.extents (top ls)) ∷ []) (same ∙ t.raise)
    ∙ ap (λ (z : Layout). before ++ PieceBox r (layout_with q.extents z.places) ∷ []) t.layout))

-- ---- the last two parts, both boxes

pub record LastTwo (ps : List RowPart) (keep : ℕ) (ls : List (List Place)) (b : TwoBoxes) : Type 0 where
  pub layers : ls ≡ top ls ∷ top (dropped ls) ∷ dropped (dropped ls)
  pub laid : AreLaid (reverse (take keep ps)) (dropped (dropped ls))
  pub first : IsBoxLaid b.first
  pub second : IsBoxLaid b.second
  pub view : pieces_back (reverse ps) ls ≡ (pieces_back (reverse (take keep ps)) (dropped (dropped ls)) ++ PieceBox b.first.raise (layout_with b.first.extents (top (dropped ls))) ∷ [])
      ++ PieceBox b.second.raise (layout_with b.second.extents (top ls)) ∷ []

two_first : (qs : List RowPart) (b : TwoBoxes) → last_two qs ≡ Some b → qs ≡ part.Layout b.second ∷ part.Layout b.first ∷ drop 2 qs
two_first [] b e = absurd (none-some b e)
two_first (part.Glyph f c x ∷ qs) b e = absurd (none-some b e)
two_first (part.Gap w ∷ qs) b e = absurd (none-some b e)
two_first (part.Space w s ∷ qs) b e = absurd (none-some b e)
two_first (part.Layout q ∷ []) b e = absurd (none-some b e)
two_first (part.Layout q ∷ part.Glyph f c x ∷ qs) b e = absurd (none-some b e)
two_first (part.Layout q ∷ part.Gap w ∷ qs) b e = absurd (none-some b e)
two_first (part.Layout q ∷ part.Space w s ∷ qs) b e = absurd (none-some b e)
two_first (part.Layout q ∷ part.Layout p ∷ qs) b e =
    ap (λ (z : TwoBoxes). part.Layout z.second ∷ part.Layout z.first ∷ qs) (same_Some _ b e)

two_apart : (ps : List RowPart) (q p : RowPart) (qs : List RowPart) → reverse ps ≡ q ∷ p ∷ qs → qs ≡ reverse (take (length ps - 2) ps)
two_apart ps q p qs e =
    let one : p ∷ qs ≡ reverse (take (length ps - 1) ps) = last_apart ps q (p ∷ qs) e in
    let two : qs ≡ reverse (take (length (take (length ps - 1) ps) - 1) (take (length ps - 1) ps)) = last_apart (take (length ps - 1) ps) p qs (sym one) in
    let n : length (take (length ps - 1) ps) ≡ length ps - 1 = length-take-le (length ps - 1) ps (omega arith) in
    let k : length (take (length ps - 1) ps) - 1 ≡ length ps - 2 = omega (arith, n) in
    two ∙ ap reverse (ap (λ z. take z (take (length ps - 1) ps)) k ∙ take-take (length ps - 2) (length ps - 1) ps (omega arith))

pub two_of : (ps : List RowPart) (keep : ℕ) (ls : List (List Place)) (b : TwoBoxes) → AreLaid (reverse ps) ls → last_two (reverse ps) ≡ Some b → keep ≡ length ps - 2 → LastTwo ps keep ls b
two_of ps keep ls b h e k =
    let first = two_first (reverse ps) b e in
    let rest = two_apart ps (part.Layout b.second) (part.Layout b.first) (drop 2 (reverse ps)) first ∙ ap (λ z. reverse (take z ps)) (sym k) in
    let parts : reverse ps ≡ part.Layout b.second ∷ part.Layout b.first ∷ reverse (take keep ps) = first ∙ ap (λ z. part.Layout b.second ∷ part.Layout b.first ∷ z) rest in
    let both : AreLaid (part.Layout b.second ∷ part.Layout b.first ∷ reverse (take keep ps)) ls = subst (λ z. AreLaid z ls) parts h in
    let q = laid_box b.second ls both.0 in
    let p = laid_box b.first (dropped ls) both.1.0 in
    record {
      layers = q.0 ∙ ap (λ z. top ls ∷ z) p.0;
      laid = both.1.1;
      first = p.1;
      second = q.1;
      view = ap (λ z. pieces_back z ls) parts;
    }

-- they are the last pieces
pub record TwoPieces (ps : List RowPart) (keep : ℕ) (ls : List (List Place)) (b : TwoBoxes) (before : List PieceValue) (l m : Layout) : Type 0 where
  pub rest : pieces_back (reverse (take keep ps)) (dropped (dropped ls)) ≡ before
  pub first : layout_with b.first.extents (top (dropped ls)) ≡ l
  pub second : layout_with b.second.extents (top ls) ≡ m

pub two_are : (ps : List RowPart) (keep : ℕ) (ls : List (List Place)) (b : TwoBoxes) (now before : List PieceValue) (r s : ℤ) (l m : Layout) → LastTwo ps keep ls b → pieces_back (reverse ps) ls ≡ now
    → now ≡ before ++ PieceBox r l ∷ PieceBox s m ∷ [] → TwoPieces ps keep ls b before l m
two_are ps keep ls b now before r s l m h v e =
    let front = pieces_back (reverse (take keep ps)) (dropped (dropped ls)) in
    let p = PieceBox b.first.raise (layout_with b.first.extents (top (dropped ls))) in
    let q = PieceBox b.second.raise (layout_with b.second.extents (top ls)) in
    let ends = same_ends (front ++ p ∷ []) (before ++ PieceBox r l ∷ []) q (PieceBox s m) (sym h.view ∙ (v ∙ (e ∙ sym (append_assoc before (PieceBox r l ∷ []) (PieceBox s m ∷ []))))) in
    let others = same_ends front before p (PieceBox r l) ends.front in
    let first : PieceBox b.first.raise (layout_with b.first.extents (top (dropped ls))) ≡ PieceBox r l = others.last in
    let second : PieceBox b.second.raise (layout_with b.second.extents (top ls)) ≡ PieceBox s m = ends.last in
    record { rest = others.front; first = cc; second = cc }

none_before : (q : RowPiece) (qs : List RowPart) → last_two (part.Layout q ∷ qs) ≡ None → last_box qs ≡ None
none_before q [] h = refl
none_before q (part.Glyph f c x ∷ qs) h = refl
none_before q (part.Layout p ∷ qs) h = absurd (none-some _ (sym h))
none_before q (part.Gap w ∷ qs) h = refl
none_before q (part.Space w s ∷ qs) h = refl

-- or the last two pieces are not both boxes
pub not_two : (qs : List RowPart) (ls : List (List Place)) (now before : List PieceValue) (r s : ℤ) (l m : Layout) → last_two qs ≡ None → pieces_back qs ls ≡ now
    → now ≡ before ++ PieceBox r l ∷ PieceBox s m ∷ [] → ⊥
not_two [] ls now before r s l m h v e = no_box [] ls now (before ++ PieceBox r l ∷ []) s m refl v (e ∙ sym (append_assoc before (PieceBox r l ∷ []) (PieceBox s m ∷ [])))
not_two (part.Glyph f c x ∷ qs) ls now before r s l m h v e = no_box (part.Glyph f c x ∷ qs) ls now (before ++ PieceBox r l ∷ []) s m refl v (e ∙ sym (append_assoc before (PieceBox r l ∷ []) (PieceBox s m ∷ [])))
not_two (part.Gap w ∷ qs) ls now before r s l m h v e = no_box (part.Gap w ∷ qs) ls now (before ++ PieceBox r l ∷ []) s m refl v (e ∙ sym (append_assoc before (PieceBox r l ∷ []) (PieceBox s m ∷ [])))
not_two (part.Space w t ∷ qs) ls now before r s l m h v e = no_box (part.Space w t ∷ qs) ls now (before ++ PieceBox r l ∷ []) s m refl v (e ∙ sym (append_assoc before (PieceBox r l ∷ []) (PieceBox s m ∷ [])))
not_two (part.Layout q ∷ qs) ls now before r s l m h v e =
    let ends = same_ends (pieces_back qs (dropped ls)) (before ++ PieceBox r l ∷ []) (piece_of (part.Layout q) (top ls)) (PieceBox s m) (v ∙ (e ∙ sym (append_assoc before (PieceBox r l ∷ []) (PieceBox s m ∷ [])))) in
    no_box qs (dropped ls) (before ++ PieceBox r l ∷ []) before r l (none_before q qs h) ends.front refl
