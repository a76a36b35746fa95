-- Pieces taken out: how many layers the parts after them have, and those on the layers below.
use Rattle.std.proofs.Common.{◌≡◌, ℕ, suc, ◌+◌, ◌-◌, ◌≤◌, min, cond, List, [], ◌∷◌, ◌++◌, length, length-append, reverse, take, drop, append_assoc, count_by, refl, arith, inl, inr, sym, ◌∙◌, ap, subst}
use Rattle.std.proofs.lemmas.Bool.{cases_lt}
use Rattle.std.proofs.lemmas.List.{append-nil, drop_all, drop_at, drop-drop, length-drop, length-reverse, length-take-le, reverse-append, take_all, take_at, take-append-drop}
use Rattle.std.proofs.lemmas.List.Recursion.{is_count_by}
use Rattle.mt_box.specs.declared.place.Place.{Place}
use Rattle.mt_box.specs.declared.marks.row.RowPart.{RowPart}
use Rattle.mt_box.specs.declared.marks.row.RowPart.TheVariants as part
use Rattle.mt_box.specs.Rows.{PieceValue}
use Rattle.mt_box.specs.marks.Layers.{top}
use Rattle.mt_pieces.specs.inner.LastParts.{has_layer}
use Rattle.mt_pieces.specs.inner.View.{AreLaid, piece_of, pieces_back, under}
use Rattle.mt_pieces.proofs.Laid.{length_back}

abbrev pub layer_count : List RowPart → ℕ
layer_count [] = 0
layer_count (part.Glyph f c e ∷ ps) = suc (layer_count ps)
layer_count (part.Layout p ∷ ps) = suc (layer_count ps)
layer_count (part.Gap w ∷ ps) = layer_count ps
layer_count (part.Space w s ∷ ps) = layer_count ps

count_step : (p : RowPart) (ps : List RowPart) → layer_count (p ∷ ps) ≡ cond (has_layer p) (1 + layer_count ps) (layer_count ps)
count_step (part.Glyph f c e) ps = omega arith
count_step (part.Layout p) ps = omega arith
count_step (part.Gap w) ps = refl
count_step (part.Space w s) ps = refl

pub counted : (ps : List RowPart) → layer_count ps ≡ count_by has_layer ps
counted ps = is_count_by layer_count has_layer refl count_step ps

pub count_more : (ps qs : List RowPart) → layer_count (ps ++ qs) ≡ layer_count ps + layer_count qs
count_more [] qs = omega arith
count_more (part.Glyph f c e ∷ ps) qs = omega (arith, count_more ps qs)
count_more (part.Layout p ∷ ps) qs = omega (arith, count_more ps qs)
count_more (part.Gap w ∷ ps) qs = count_more ps qs
count_more (part.Space w s ∷ ps) qs = count_more ps qs

pub count_reverse : (ps : List RowPart) → layer_count (reverse ps) ≡ layer_count ps
count_reverse [] = refl
count_reverse (p ∷ ps) =
    ap layer_count (reverse-append (p ∷ []) ps) ∙ (count_more (reverse ps) (p ∷ []) ∙ (ap (λ n. n + layer_count (p ∷ [])) (count_reverse ps) ∙ one_more p))
  where
    one_more : (p : RowPart) → layer_count ps + layer_count (p ∷ []) ≡ layer_count (p ∷ ps)
    one_more (part.Glyph f c e) = omega arith
    one_more (part.Layout q) = omega arith
    one_more (part.Gap w) = omega arith
    one_more (part.Space w s) = omega arith

-- each layer is that of a part
all_counted : (bs : List RowPart) (ls : List (List Place)) → AreLaid bs ls → length ls ≡ layer_count bs
all_counted [] ls h = ap length h
all_counted (part.Glyph f c e ∷ bs) [] h = absurd h.0
all_counted (part.Glyph f c e ∷ bs) (l ∷ ls) h = ap suc (all_counted bs ls h.1)
all_counted (part.Layout p ∷ bs) [] h = absurd h.0
all_counted (part.Layout p ∷ bs) (l ∷ ls) h = ap suc (all_counted bs ls h.1)
all_counted (part.Gap w ∷ bs) ls h = all_counted bs ls h.1
all_counted (part.Space w s ∷ bs) ls h = all_counted bs ls h.1

pub counted_apart : (ps : List RowPart) (ls : List (List Place)) (n : ℕ) → AreLaid (reverse ps) ls → layer_count (take n ps) + layer_count (drop n ps) ≡ length ls
counted_apart ps ls n h = sym (count_more (take n ps) (drop n ps)) ∙ (ap layer_count (take-append-drop n ps) ∙ (sym (count_reverse ps) ∙ sym (all_counted (reverse ps) ls h)))

-- ---- the layers below parts

abbrev pub under_all : List RowPart → List (List Place) → List (List Place)
under_all [] ls = ls
under_all (b ∷ bs) ls = under_all bs (under b ls)

pub laid_under : (bs fs : List RowPart) (ls : List (List Place)) → AreLaid (bs ++ fs) ls → AreLaid fs (under_all bs ls)
laid_under [] fs ls h = h
laid_under (b ∷ bs) fs ls h = laid_under bs fs (under b ls) h.1

pub drop_under : (bs fs : List RowPart) (ls : List (List Place)) → AreLaid (bs ++ fs) ls → drop (layer_count bs) ls ≡ under_all bs ls
drop_under [] fs ls h = refl
drop_under (part.Glyph f c e ∷ bs) fs [] h = absurd h.0
drop_under (part.Glyph f c e ∷ bs) fs (l ∷ ls) h = drop_under bs fs ls h.1
drop_under (part.Layout p ∷ bs) fs [] h = absurd h.0
drop_under (part.Layout p ∷ bs) fs (l ∷ ls) h = drop_under bs fs ls h.1
drop_under (part.Gap w ∷ bs) fs ls h = drop_under bs fs ls h.1
drop_under (part.Space w s ∷ bs) fs ls h = drop_under bs fs ls h.1

pub whole_under : (bs fs : List RowPart) (ls : List (List Place)) → pieces_back (bs ++ fs) ls ≡ pieces_back fs (under_all bs ls) ++ pieces_back bs ls
whole_under [] fs ls = sym (append-nil (pieces_back fs ls))
whole_under (b ∷ bs) fs ls =
    ap (λ r. r ++ piece_of b (top ls) ∷ []) (whole_under bs fs (under b ls))
    ∙ append_assoc (pieces_back fs (under_all bs (under b ls))) (pieces_back bs (under b ls)) (piece_of b (top ls) ∷ [])

-- ---- pieces taken out

cut_laid : (bs ms fs : List RowPart) (ls : List (List Place)) → AreLaid (bs ++ (ms ++ fs)) ls → AreLaid (bs ++ fs) (take (layer_count bs) ls ++ drop (layer_count bs + layer_count ms) ls)
cut_laid [] ms fs ls h =
    let none : 0 + layer_count ms ≡ layer_count ms = omega arith in
    subst (AreLaid fs) (sym (ap (λ n. drop n ls) none ∙ drop_under ms fs ls h)) (laid_under ms fs ls h)
cut_laid (part.Glyph f c e ∷ bs) ms fs [] h = absurd h.0
cut_laid (part.Glyph f c e ∷ bs) ms fs (l ∷ ls) h =
    let k : suc (layer_count bs) + layer_count ms ≡ suc (layer_count bs + layer_count ms) = omega arith in
    (h.0, subst (λ n. AreLaid (bs ++ fs) (take (layer_count bs) ls ++ drop n (l ∷ ls))) (sym k) (cut_laid bs ms fs ls h.1))
cut_laid (part.Layout p ∷ bs) ms fs [] h = absurd h.0
cut_laid (part.Layout p ∷ bs) ms fs (l ∷ ls) h =
    let k : suc (layer_count bs) + layer_count ms ≡ suc (layer_count bs + layer_count ms) = omega arith in
    (h.0, subst (λ n. AreLaid (bs ++ fs) (take (layer_count bs) ls ++ drop n (l ∷ ls))) (sym k) (cut_laid bs ms fs ls h.1))
cut_laid (part.Gap w ∷ bs) ms fs ls h = (h.0, cut_laid bs ms fs ls h.1)
cut_laid (part.Space w s ∷ bs) ms fs ls h = (h.0, cut_laid bs ms fs ls h.1)

cut_back : (bs ms fs : List RowPart) (ls : List (List Place)) → AreLaid (bs ++ (ms ++ fs)) ls
    → pieces_back (bs ++ fs) (take (layer_count bs) ls ++ drop (layer_count bs + layer_count ms) ls) ≡ pieces_back fs (under_all ms (under_all bs ls)) ++ pieces_back bs ls
cut_back [] ms fs ls h =
    let none : 0 + layer_count ms ≡ layer_count ms = omega arith in
    ap (pieces_back fs) (ap (λ n. drop n ls) none ∙ drop_under ms fs ls h) ∙ sym (append-nil (pieces_back fs (under_all ms ls)))
cut_back (part.Glyph f c e ∷ bs) ms fs [] h = absurd h.0
cut_back (part.Glyph f c e ∷ bs) ms fs (l ∷ ls) h =
    let p : RowPart = part.Glyph f c e in
    let k : suc (layer_count bs) + layer_count ms ≡ suc (layer_count bs + layer_count ms) = omega arith in
    ap (λ n. pieces_back (bs ++ fs) (take (layer_count bs) ls ++ drop n (l ∷ ls)) ++ piece_of p l ∷ []) k
    ∙ (ap (λ z. z ++ piece_of p l ∷ []) (cut_back bs ms fs ls h.1) ∙ append_assoc (pieces_back fs (under_all ms (under_all bs ls))) (pieces_back bs ls) (piece_of p l ∷ []))
cut_back (part.Layout q ∷ bs) ms fs [] h = absurd h.0
cut_back (part.Layout q ∷ bs) ms fs (l ∷ ls) h =
    let p : RowPart = part.Layout q in
    let k : suc (layer_count bs) + layer_count ms ≡ suc (layer_count bs + layer_count ms) = omega arith in
    ap (λ n. pieces_back (bs ++ fs) (take (layer_count bs) ls ++ drop n (l ∷ ls)) ++ piece_of p l ∷ []) k
    ∙ (ap (λ z. z ++ piece_of p l ∷ []) (cut_back bs ms fs ls h.1) ∙ append_assoc (pieces_back fs (under_all ms (under_all bs ls))) (pieces_back bs ls) (piece_of p l ∷ []))
cut_back (part.Gap w ∷ bs) ms fs ls h =
    let p : RowPart = part.Gap w in
    ap (λ z. z ++ piece_of p [] ∷ []) (cut_back bs ms fs ls h.1) ∙ append_assoc (pieces_back fs (under_all ms (under_all bs ls))) (pieces_back bs ls) (piece_of p [] ∷ [])
cut_back (part.Space w s ∷ bs) ms fs ls h =
    let p : RowPart = part.Space w s in
    ap (λ z. z ++ piece_of p [] ∷ []) (cut_back bs ms fs ls h.1) ∙ append_assoc (pieces_back fs (under_all ms (under_all bs ls))) (pieces_back bs ls) (piece_of p [] ∷ [])

-- the parts from a number on before another, and the pieces of these and of the others
pub record CutAt (ps : List RowPart) (ls : List (List Place)) (now : List PieceValue) (start end : ℕ) : Type 0 where
  pub parts : reverse ps ≡ reverse (drop end ps) ++ (reverse (take (end - start) (drop start ps)) ++ reverse (take start ps))
  pub laid : AreLaid (reverse (drop end ps) ++ (reverse (take (end - start) (drop start ps)) ++ reverse (take start ps))) ls
  pub first : take start now ≡ pieces_back (reverse (take start ps)) (under_all (reverse (take (end - start) (drop start ps))) (under_all (reverse (drop end ps)) ls))
  pub middle : take (end - start) (drop start now) ≡ pieces_back (reverse (take (end - start) (drop start ps))) (under_all (reverse (drop end ps)) ls)
  pub last : drop end now ≡ pieces_back (reverse (drop end ps)) ls

pub cut_at : (ps : List RowPart) (ls : List (List Place)) (now : List PieceValue) (start end : ℕ) → AreLaid (reverse ps) ls → pieces_back (reverse ps) ls ≡ now → start ≤ end → end ≤ length ps → CutAt ps ls now start end
cut_at ps ls now start end h v le few =
    let mid = take (end - start) (drop start ps) in
    let bs = reverse (drop end ps) in
    let ms = reverse mid in
    let fs = reverse (take start ps) in
    let sum : start + (end - start) ≡ end = omega (arith, le) in
    let tail : drop start ps ≡ mid ++ drop end ps =
    sym (take-append-drop (end - start) (drop start ps)) ∙ ap (λ z. mid ++ z) (drop-drop (end - start) start ps ∙ ap (λ n. drop n ps) sum) in
    let r : reverse ps ≡ bs ++ (ms ++ fs) =
    ap reverse (sym (take-append-drop start ps) ∙ ap (λ z. take start ps ++ z) tail)
    ∙ (reverse-append (take start ps) (mid ++ drop end ps) ∙ (ap (λ z. z ++ fs) (reverse-append mid (drop end ps)) ∙ append_assoc bs ms fs)) in
    let front = pieces_back fs (under_all ms (under_all bs ls)) in
    let middle = pieces_back ms (under_all bs ls) in
    let back = pieces_back bs ls in
    let w : now ≡ front ++ (middle ++ back) =
    sym v ∙ (ap (λ z. pieces_back z ls) r ∙ (whole_under bs (ms ++ fs) ls ∙ (ap (λ z. z ++ back) (whole_under ms fs (under_all bs ls)) ∙ append_assoc front middle back))) in
    let n : length front ≡ start = length_back fs (under_all ms (under_all bs ls)) ∙ (length-reverse (take start ps) ∙ length-take-le start ps (omega (arith, le, few))) in
    let m : length middle ≡ end - start = length_back ms (under_all bs ls) ∙ (length-reverse mid ∙ length-take-le (end - start) (drop start ps) (omega (arith, length-drop start ps, few))) in
    record {
      parts = r;
      laid = subst (λ z. AreLaid z ls) r h;
      first = ap (take start) w ∙ take_at front (middle ++ back) start n;
      middle = ap (take (end - start)) (ap (drop start) w ∙ drop_at front (middle ++ back) start n) ∙ take_at middle back (end - start) m;
      last = ap (drop end) (w ∙ sym (append_assoc front middle back)) ∙ drop_at (front ++ middle) back end (omega (arith, n, m, length-append front middle, le));
    }

pub record TakenOut (ps ps' : List RowPart) (ls ls' : List (List Place)) (now : List PieceValue) (start end : ℕ) : Type 0 where
  pub laid : AreLaid (reverse ps') ls'
  pub view : pieces_back (reverse ps') ls' ≡ take start now ++ drop end now

pub taken_out : (ps ps' : List RowPart) (ls ls' : List (List Place)) (now : List PieceValue) (start end : ℕ) → AreLaid (reverse ps) ls → pieces_back (reverse ps) ls ≡ now → start ≤ end → end ≤ length ps
    → ps' ≡ take start ps ++ drop end ps → ls' ≡ take (layer_count (drop end ps)) ls ++ drop (layer_count (drop end ps) + layer_count (take (end - start) (drop start ps))) ls → TakenOut ps ps' ls ls' now start end
taken_out ps ps' ls ls' now start end h v le few q m =
    let mid = take (end - start) (drop start ps) in
    let bs = reverse (drop end ps) in
    let ms = reverse mid in
    let fs = reverse (take start ps) in
    let c = cut_at ps ls now start end h v le few in
    let r : reverse ps' ≡ bs ++ fs = ap reverse q ∙ reverse-append (take start ps) (drop end ps) in
    let m' : ls' ≡ take (layer_count bs) ls ++ drop (layer_count bs + layer_count ms) ls =
    m ∙ (ap (λ n. take n ls ++ drop (n + layer_count mid) ls) (sym (count_reverse (drop end ps))) ∙ ap (λ n. take (layer_count bs) ls ++ drop (layer_count bs + n) ls) (sym (count_reverse mid))) in
    record {
      laid = subst (λ z. AreLaid z ls') (sym r) (subst (AreLaid (bs ++ fs)) (sym m') (cut_laid bs ms fs ls c.laid));
      view = ap (λ z. pieces_back z ls') r ∙ (ap (pieces_back (bs ++ fs)) m' ∙ (cut_back bs ms fs ls c.laid ∙ (ap (λ z. z ++ pieces_back bs ls) (sym c.first) ∙ ap (λ z. take start now ++ z) (sym c.last))));
    }

-- numbers past the end
pub to_the_end : (now : List PieceValue) (first count start end : ℕ) → start ≡ min first (length now) → end ≡ min (start + count) (length now) → take start now ++ drop end now ≡ take first now ++ drop (first + count) now
to_the_end now first count start end s e =
    elim (cases_lt (length now) (first + count)) [
      | inl many ↦ ap (λ z. z ++ drop end now) front ∙ ap (λ z. take first now ++ z) (drop_all end now (omega (arith, s, e, many)) ∙ sym (drop_all (first + count) now (omega (arith, many))))
      | inr few ↦ ap (λ z. z ++ drop end now) front ∙ ap (λ n. take first now ++ drop n now) (omega (arith, s, e, few))
    ]
  where
    front : take start now ≡ take first now
    front = elim (cases_lt (length now) first) [
      | inl many ↦ take_all start now (omega (arith, s, many)) ∙ sym (take_all first now (omega (arith, many)))
      | inr few ↦ ap (λ n. take n now) (omega (arith, s, few))
    ]
