-- What the cells of a table reach, found one by one.
use Rattle.std.proofs.Common.{◌≡◌, ℕ, zero, suc, pos, ◌≤◌, ◌<◌, List, [], ◌∷◌, ◌++◌, append_assoc, drop, length, map, reverse, slice_index_or, take, refl, sym, ◌∙◌, ap, subst, arith}
use Rattle.std.proofs.lemmas.List.{append-nil, length-take-le, map-append, reverse-append, reverse-reverse, take-append-drop}
use Rattle.std.proofs.lemmas.List.Elements.{All-push}
use Rattle.std.specs.Prelude.{All}
use Rattle.mt_box.specs.declared.extents.Extents.{Extents}
use Rattle.mt_box.specs.declared.place.Place.{Place}
use Rattle.mt_box.specs.declared.marks.row.RowPiece.{RowPiece}
use Rattle.mt_box.specs.declared.marks.row.RowPart.{RowPart}
use Rattle.mt_box.specs.declared.marks.row.RowPart.TheVariants as part
use Rattle.mt_box.specs.Extents.{ExtentsInRange}
use Rattle.mt_box.specs.marks.Layers.{dropped}
use Rattle.mt_pieces.specs.inner.Cells.{AreBoxes, BoxesInRange, flat}
use Rattle.mt_pieces.specs.inner.View.{AreLaid}
use Rattle.mt_pieces.proofs.Celled.{flat_more}

-- ---- a row

pub record CellsLeft (parts rest : List RowPart) (extents : List Extents) : Type 0 where
  pub are : (es : List Extents) → AreBoxes rest es → AreBoxes parts (extents ++ es)
  pub in_range : All ExtentsInRange extents
  pub left_in_range : BoxesInRange rest

pub cells_left_more : (parts rest rest' : List RowPart) (p : RowPiece) (e : Extents) (extents extents' : List Extents) → CellsLeft parts rest extents → rest ≡ part.Layout p ∷ rest' → p ≡ record { extents = e; raise = pos 0 }
    → extents' ≡ extents ++ e ∷ [] → CellsLeft parts rest' extents'
cells_left_more parts rest rest' p e extents extents' h r q n =
    let k : CellsLeft parts (part.Layout p ∷ rest') extents = subst (λ z. CellsLeft parts z extents) r h in
    let range : ExtentsInRange e = subst (λ (z : RowPiece). ExtentsInRange z.extents) q k.left_in_range.0 in
    record {
      are = λ es b. subst (AreBoxes parts) (sym (append_assoc extents (e ∷ []) es) ∙ ap (λ z. z ++ es) (sym n)) (k.are (e ∷ es) (q, b));
      in_range = subst (All ExtentsInRange) (sym n) (All-push ExtentsInRange extents e k.in_range range);
      left_in_range = k.left_in_range.1;
    }

pub cells_left_end : (parts rest : List RowPart) (extents : List Extents) → CellsLeft parts rest extents → rest ≡ [] → AreBoxes parts extents
cells_left_end parts rest extents h r =
    subst (AreBoxes parts) (append-nil extents) ((subst (λ z. CellsLeft parts z extents) r h).are [] tt)

-- ---- rows

boxes_more : (ps qs : List RowPart) (es fs : List Extents) → AreBoxes ps es → AreBoxes qs fs → AreBoxes (ps ++ qs) (es ++ fs)
boxes_more [] qs [] fs h k = k
boxes_more [] qs (e ∷ es) fs h k = absurd h
boxes_more (p ∷ ps) qs [] fs h k = absurd h
boxes_more (part.Glyph f c x ∷ ps) qs (e ∷ es) fs h k = absurd h
boxes_more (part.Layout p ∷ ps) qs (e ∷ es) fs h k = (h.0, boxes_more ps qs es fs h.1 k)
boxes_more (part.Gap w ∷ ps) qs (e ∷ es) fs h k = absurd h
boxes_more (part.Space w s ∷ ps) qs (e ∷ es) fs h k = absurd h

pub boxes_length : (ps : List RowPart) (es : List Extents) → AreBoxes ps es → length es ≡ length ps
boxes_length [] [] h = refl
boxes_length [] (e ∷ es) h = absurd h
boxes_length (p ∷ ps) [] h = absurd h
boxes_length (part.Glyph f c x ∷ ps) (e ∷ es) h = absurd h
boxes_length (part.Layout p ∷ ps) (e ∷ es) h = omega (arith, boxes_length ps es h.1)
boxes_length (part.Gap w ∷ ps) (e ∷ es) h = absurd h
boxes_length (part.Space w s ∷ ps) (e ∷ es) h = absurd h

pub range_take : (n : ℕ) (ps : List RowPart) → BoxesInRange ps → BoxesInRange (take n ps)
range_take zero ps h = tt
range_take (suc n) [] h = tt
range_take (suc n) (part.Glyph f c x ∷ ps) h = range_take n ps h
range_take (suc n) (part.Layout p ∷ ps) h = (h.0, range_take n ps h.1)
range_take (suc n) (part.Gap w ∷ ps) h = range_take n ps h
range_take (suc n) (part.Space w s ∷ ps) h = range_take n ps h

pub range_drop : (n : ℕ) (ps : List RowPart) → BoxesInRange ps → BoxesInRange (drop n ps)
range_drop zero ps h = h
range_drop (suc n) [] h = tt
range_drop (suc n) (part.Glyph f c x ∷ ps) h = range_drop n ps h
range_drop (suc n) (part.Layout p ∷ ps) h = range_drop n ps h.1
range_drop (suc n) (part.Gap w ∷ ps) h = range_drop n ps h
range_drop (suc n) (part.Space w s ∷ ps) h = range_drop n ps h

pub record RowsLeft (parts rest : List RowPart) (rows counts : List ℕ) (extents : List (List Extents)) : Type 0 where
  pub are : (es : List Extents) → AreBoxes rest es → AreBoxes parts (flat extents ++ es)
  pub many : map length extents ++ counts ≡ rows
  pub in_range : All (All ExtentsInRange) extents
  pub left_in_range : BoxesInRange rest

pub rows_left_more : (parts rest rest' : List RowPart) (rows counts counts' : List ℕ) (n : ℕ) (row : List RowPart) (es : List Extents) (extents extents' : List (List Extents)) → RowsLeft parts rest rows counts extents
    → counts ≡ n ∷ counts' → n ≤ length rest → row ≡ take n rest → rest' ≡ drop n rest → AreBoxes row es → All ExtentsInRange es → extents' ≡ extents ++ es ∷ [] → RowsLeft parts rest' rows counts' extents'
rows_left_more parts rest rest' rows counts counts' n row es extents extents' h c few r d b range more =
    let whole : row ++ rest' ≡ rest = rw (r, d) (take-append-drop n rest) in
    let k : length es ≡ n = boxes_length row es b ∙ (ap length r ∙ length-take-le n rest few) in
    record {
      are = λ fs x. subst (AreBoxes parts) (sym (append_assoc (flat extents) es fs) ∙ (ap (λ z. z ++ fs) (sym (flat_more extents es)) ∙ ap (λ z. flat z ++ fs) (sym more)))
          (h.are (es ++ fs) (subst (λ z. AreBoxes z (es ++ fs)) whole (boxes_more row rest' es fs b x)));
      many = ap (λ z. map length z ++ counts') more ∙ (ap (λ z. z ++ counts') (map-append length extents (es ∷ []))
          ∙ (append_assoc (map length extents) (length es ∷ []) counts' ∙ (ap (λ z. map length extents ++ z ∷ counts') k ∙ (ap (λ z. map length extents ++ z) (sym c) ∙ h.many))));
      in_range = subst (All (All ExtentsInRange)) (sym more) (All-push (All ExtentsInRange) extents es h.in_range range);
      left_in_range = subst BoxesInRange (sym d) (range_drop n rest h.left_in_range);
    }

pub rows_left_end : (parts rest : List RowPart) (rows counts : List ℕ) (extents : List (List Extents)) → RowsLeft parts rest rows counts extents → rest ≡ [] → AreBoxes parts (flat extents)
rows_left_end parts rest rows counts extents h r =
    subst (AreBoxes parts) (append-nil (flat extents)) ((subst (λ z. RowsLeft parts z rows counts extents) r h).are [] tt)

pub rows_left_many : (parts rest : List RowPart) (rows counts : List ℕ) (extents : List (List Extents)) → RowsLeft parts rest rows counts extents → counts ≡ [] → map length extents ≡ rows
rows_left_many parts rest rows counts extents h c =
    sym (append-nil (map length extents)) ∙ (ap (λ z. map length extents ++ z) (sym c) ∙ h.many)

-- ---- what the rows are asked for

-- the boxes of parts that have their layers
laid_range : (ps : List RowPart) (ms : List (List Place)) → AreLaid ps ms → BoxesInRange ps
laid_range [] ms h = tt
laid_range (part.Glyph f c x ∷ ps) ms h = laid_range ps (dropped ms) h.1
laid_range (part.Layout p ∷ ps) [] h = absurd h.0
laid_range (part.Layout p ∷ ps) (l ∷ ls) h = (h.0.extents, laid_range ps ls h.1)
laid_range (part.Gap w ∷ ps) ms h = laid_range ps ms h.1
laid_range (part.Space w s ∷ ps) ms h = laid_range ps ms h.1

range_more : (ps qs : List RowPart) → BoxesInRange ps → BoxesInRange qs → BoxesInRange (ps ++ qs)
range_more [] qs h k = k
range_more (part.Glyph f c x ∷ ps) qs h k = range_more ps qs h k
range_more (part.Layout p ∷ ps) qs h k = (h.0, range_more ps qs h.1 k)
range_more (part.Gap w ∷ ps) qs h k = range_more ps qs h k
range_more (part.Space w s ∷ ps) qs h k = range_more ps qs h k

range_back : (ps : List RowPart) → BoxesInRange ps → BoxesInRange (reverse ps)
range_back [] h = tt
range_back (p ∷ ps) h =
    let both = range_apart p ps h in
    subst BoxesInRange (sym (reverse-append (p ∷ []) ps)) (range_more (reverse ps) (p ∷ []) (range_back ps both.1) both.0)
  where
    range_apart : (q : RowPart) (qs : List RowPart) → BoxesInRange (q ∷ qs) → BoxesInRange (q ∷ []) × BoxesInRange qs
    range_apart (part.Glyph f c x) qs h = (tt, h)
    range_apart (part.Layout p) qs h = ((h.0, tt), h.1)
    range_apart (part.Gap w) qs h = (tt, h)
    range_apart (part.Space w s) qs h = (tt, h)

pub last_range : (ps : List RowPart) (n : ℕ) (ms : List (List Place)) → AreLaid (reverse ps) ms → BoxesInRange (drop n ps)
last_range ps n ms h = range_drop n ps (subst BoxesInRange (reverse-reverse ps) (range_back (reverse ps) (laid_range (reverse ps) ms h)))

-- rows of few cells
pub few_in_rows : (n : ℕ) (t : List (List Extents)) → All (λ k. k ≤ n) (map length t) → (k : ℕ) (d : List Extents) → k < length t → length (slice_index_or t k d) ≤ n
few_in_rows n [] h k d lt = absurd (let z : ⊥ = omega (arith, lt) in z)
few_in_rows n (es ∷ t) h zero d lt = h zero (length d) (omega arith)
few_in_rows n (es ∷ t) h (suc k) d lt = few_in_rows n t (λ j e less. h (suc j) e (omega (arith, less))) k d (omega (arith, lt))
