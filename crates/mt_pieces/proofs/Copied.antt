-- A run of pieces copied: its parts and its layers once more.
use Rattle.std.proofs.Common.{◌≡◌, ℕ, ◌+◌, ◌-◌, ◌≤◌, min, List, [], ◌∷◌, ◌++◌, Result, Ok, Err, OnOk, OnErr, IsOk, length, reverse, take, drop, append_assoc, arith, refl, sym, ◌∙◌, ap, subst}
use Rattle.std.specs.Prelude.{⊤}
use Rattle.std.specs.declared.alloc.AllocError.{AllocError}
use Rattle.std.proofs.lemmas.List.{append-nil, length-drop, take_min, length-reverse, length-take-le, reverse-append, take-append-drop, take-take, drop-take}
use Rattle.mt_box.specs.declared.place.Place.{Place}
use Rattle.mt_box.specs.declared.marks.row.RowPart.{RowPart}
use Rattle.mt_box.specs.declared.marks.row.RowPart.TheVariants as part
use Rattle.mt_box.specs.Rows.{PieceValue}
use Rattle.mt_box.specs.marks.Layers.{top}
use Rattle.mt_pieces.specs.declared.runs.PieceAt.{PieceAt}
use Rattle.mt_pieces.specs.Runs.{IsAt, layers_of}
use Rattle.mt_pieces.specs.inner.View.{AreLaid, piece_of, pieces_back, under}
use Rattle.mt_pieces.proofs.Laid.{length_back}
use Rattle.mt_pieces.proofs.Moved.{count_reverse, cut_at, drop_under, layer_count, laid_under, under_all}
use Rattle.mt_pieces.proofs.Placed.{layers_more}

-- ---- layers of pieces and of their parts

pub same_count : (bs : List RowPart) (ls : List (List Place)) → layers_of (pieces_back bs ls) ≡ layer_count bs
same_count [] ls = omega arith
same_count (b ∷ bs) ls = layers_more (pieces_back bs (under b ls)) (piece_of b (top ls) ∷ []) ∙ (ap (λ n. n + layers_of (piece_of b (top ls) ∷ [])) (same_count bs (under b ls)) ∙ one_more b)
  where
    one_more : (p : RowPart) → layer_count bs + layers_of (piece_of p (top ls) ∷ []) ≡ layer_count (p ∷ bs)
    one_more (part.Glyph f c e) = omega arith
    one_more (part.Layout q) = omega arith
    one_more (part.Gap w) = omega arith
    one_more (part.Space w s) = omega arith

count_few : (bs fs : List RowPart) (ls : List (List Place)) → AreLaid (bs ++ fs) ls → layer_count bs ≤ length ls
count_few [] fs ls h = omega arith
count_few (part.Glyph f c e ∷ bs) fs [] h = absurd h.0
count_few (part.Glyph f c e ∷ bs) fs (l ∷ ls) h = omega (arith, count_few bs fs ls h.1)
count_few (part.Layout p ∷ bs) fs [] h = absurd h.0
count_few (part.Layout p ∷ bs) fs (l ∷ ls) h = omega (arith, count_few bs fs ls h.1)
count_few (part.Gap w ∷ bs) fs ls h = count_few bs fs ls h.1
count_few (part.Space w s ∷ bs) fs ls h = count_few bs fs ls h.1

-- there are no other layers than those of the parts
count_all : (fs : List RowPart) (ls : List (List Place)) → AreLaid fs ls → length ls ≡ layer_count fs
count_all [] ls h = ap length h
count_all (part.Glyph f c e ∷ fs) [] h = absurd h.0
count_all (part.Glyph f c e ∷ fs) (l ∷ ls) h = omega (arith, count_all fs ls h.1)
count_all (part.Layout p ∷ fs) [] h = absurd h.0
count_all (part.Layout p ∷ fs) (l ∷ ls) h = omega (arith, count_all fs ls h.1)
count_all (part.Gap w ∷ fs) ls h = count_all fs ls h.1
count_all (part.Space w s ∷ fs) ls h = count_all fs ls h.1

-- ---- parts with their layers on others

on_laid : (ms fs qs : List RowPart) (ls ks : List (List Place)) → AreLaid (ms ++ fs) ls → AreLaid qs ks → AreLaid (ms ++ qs) (take (layer_count ms) ls ++ ks)
on_laid [] fs qs ls ks h k = k
on_laid (part.Glyph f c e ∷ ms) fs qs [] ks h k = absurd h.0
on_laid (part.Glyph f c e ∷ ms) fs qs (l ∷ ls) ks h k = (h.0, on_laid ms fs qs ls ks h.1 k)
on_laid (part.Layout p ∷ ms) fs qs [] ks h k = absurd h.0
on_laid (part.Layout p ∷ ms) fs qs (l ∷ ls) ks h k = (h.0, on_laid ms fs qs ls ks h.1 k)
on_laid (part.Gap w ∷ ms) fs qs ls ks h k = (h.0, on_laid ms fs qs ls ks h.1 k)
on_laid (part.Space w s ∷ ms) fs qs ls ks h k = (h.0, on_laid ms fs qs ls ks h.1 k)

one_back : (p : RowPart) (l : List Place) (all front back : List PieceValue) → all ≡ front ++ back → all ++ piece_of p l ∷ [] ≡ front ++ (back ++ piece_of p l ∷ [])
one_back p l all front back e = ap (λ z. z ++ piece_of p l ∷ []) e ∙ append_assoc front back (piece_of p l ∷ [])

on_back : (ms fs qs : List RowPart) (ls ks : List (List Place)) → AreLaid (ms ++ fs) ls → pieces_back (ms ++ qs) (take (layer_count ms) ls ++ ks) ≡ pieces_back qs ks ++ pieces_back ms ls
on_back [] fs qs ls ks h = sym (append-nil (pieces_back qs ks))
on_back (part.Glyph f c e ∷ ms) fs qs [] ks h = absurd h.0
on_back (part.Glyph f c e ∷ ms) fs qs (l ∷ ls) ks h = one_back (part.Glyph f c e) l _ (pieces_back qs ks) (pieces_back ms ls) (on_back ms fs qs ls ks h.1)
on_back (part.Layout p ∷ ms) fs qs [] ks h = absurd h.0
on_back (part.Layout p ∷ ms) fs qs (l ∷ ls) ks h = one_back (part.Layout p) l _ (pieces_back qs ks) (pieces_back ms ls) (on_back ms fs qs ls ks h.1)
on_back (part.Gap w ∷ ms) fs qs ls ks h = one_back (part.Gap w) [] _ (pieces_back qs ks) (pieces_back ms ls) (on_back ms fs qs ls ks h.1)
on_back (part.Space w s ∷ ms) fs qs ls ks h = one_back (part.Space w s) [] _ (pieces_back qs ks) (pieces_back ms ls) (on_back ms fs qs ls ks h.1)

-- ---- a run

-- the layers of the parts from a number on before another, and the pieces with these once more
pub record RunOf (ps : List RowPart) (ls : List (List Place)) (now : List PieceValue) (start end : ℕ) : Type 0 where
  pub above : List (List Place)
  pub run : List (List Place)
  pub below : List (List Place)
  pub stack : ls ≡ above ++ (run ++ below)
  pub before : length below ≡ layers_of (take start now)
  pub some : length run ≡ layer_count (take (end - start) (drop start ps))
  pub laid : AreLaid (reverse (ps ++ take (end - start) (drop start ps))) (run ++ ls)
  pub view : pieces_back (reverse (ps ++ take (end - start) (drop start ps))) (run ++ ls) ≡ now ++ take (end - start) (drop start now)
  pub behind : layers_of (take end now) ≡ layers_of (take start now) + layer_count (take (end - start) (drop start ps))

pub run_of : (ps : List RowPart) (ls : List (List Place)) (now : List PieceValue) (start end : ℕ) → AreLaid (reverse ps) ls → pieces_back (reverse ps) ls ≡ now → start ≤ end → end ≤ length ps → RunOf ps ls now start end
run_of ps ls now start end h v le few =
    let mid = take (end - start) (drop start ps) in
    let bs = reverse (drop end ps) in
    let ms = reverse mid in
    let fs = reverse (take start ps) in
    let c = cut_at ps ls now start end h v le few in
    let u = under_all bs ls in
    let there : AreLaid (ms ++ fs) u = laid_under bs (ms ++ fs) ls c.laid in
    let r : reverse (ps ++ mid) ≡ ms ++ reverse ps = reverse-append ps mid in
    let sum : start + (end - start) ≡ end = omega (arith, le) in
    let both : take end now ≡ take start now ++ take (end - start) (drop start now) =
    ap (λ n. take n now) (sym sum) ∙ (sym (take-append-drop start (take (start + (end - start)) now))
    ∙ (ap (λ z. z ++ drop start (take (start + (end - start)) now)) (take-take start (start + (end - start)) now (omega arith)) ∙ ap (λ z. take start now ++ z) (drop-take start (end - start) now))) in
    record {
      above = take (layer_count bs) ls;
      run = take (layer_count ms) u;
      below = drop (layer_count ms) u;
      stack = sym (take-append-drop (layer_count bs) ls) ∙ ap (λ z. take (layer_count bs) ls ++ z) (drop_under bs (ms ++ fs) ls c.laid ∙ sym (take-append-drop (layer_count ms) u));
      before = ap length (drop_under ms fs u there) ∙ (count_all fs (under_all ms u) (laid_under ms fs u there) ∙ sym (ap layers_of c.first ∙ same_count fs (under_all ms u)));
      some = length-take-le (layer_count ms) u (count_few ms fs u there) ∙ count_reverse mid;
      laid = subst (λ z. AreLaid z (take (layer_count ms) u ++ ls)) (sym r) (on_laid ms fs (reverse ps) u ls there h);
      view = ap (λ z. pieces_back z (take (layer_count ms) u ++ ls)) r ∙ (on_back ms fs (reverse ps) u ls there ∙ (ap (λ z. z ++ pieces_back ms u) v ∙ ap (λ z. now ++ z) (sym c.middle)));
      behind = ap layers_of both ∙ (layers_more (take start now) (take (end - start) (drop start now)) ∙ ap (λ n. layers_of (take start now) + n) (ap layers_of c.middle ∙ (same_count ms u ∙ count_reverse mid)));
    }

-- so many parts from a place on
pub record RunAt (ps : List RowPart) (ls : List (List Place)) (now : List PieceValue) (at : PieceAt) (count end : ℕ) : Type 0 where
  pub low : at.piece ≤ end
  pub high : end ≤ length ps
  pub is : end ≡ min (at.piece + count) (length now)
  pub run : RunOf ps ls now at.piece end
  pub same : take (end - at.piece) (drop at.piece now) ≡ take count (drop at.piece now)

pub run_at : (ps qs : List RowPart) (ls : List (List Place)) (now : List PieceValue) (at : PieceAt) (count end : ℕ) → AreLaid (reverse ps) ls → pieces_back (reverse ps) ls ≡ now → IsAt at now → qs ≡ ps → end ≡ min (at.piece + count) (length qs) → RunAt ps ls now at count end
run_at ps qs ls now at count end h v p q e =
    let many : length now ≡ length ps = sym (ap length v) ∙ (length_back (reverse ps) ls ∙ length-reverse ps) in
    let low : at.piece ≤ end = omega (arith, e, ap length q, p.within, many) in
    let high : end ≤ length ps = omega (arith, e, ap length q) in
    let k : end - at.piece ≡ min count (length (drop at.piece now)) = omega (arith, e, ap length q, many, length-drop at.piece now, p.within) in
    record {
      low = low;
      high = high;
      is = omega (arith, e, ap length q, many);
      run = run_of ps ls now at.piece end h v low high;
      same = ap (λ n. take n (drop at.piece now)) k ∙ take_min count (drop at.piece now);
    }

-- the place behind the run
pub after_run : (ps : List RowPart) (ls : List (List Place)) (now : List PieceValue) (at : PieceAt) (count end layers : ℕ) → RunAt ps ls now at count end → IsAt at now → layers ≡ layer_count (take (end - at.piece) (drop at.piece ps)) → IsAt (record { piece = end; layer = at.layer + layers }) now
after_run ps ls now at count end layers r p e = record {
  within = omega (arith, r.is);
  layer = rw (p.layer, e) (sym r.run.behind);
}

-- a run up to the place behind it
pub record RunBetween (ps : List RowPart) (ls : List (List Place)) (now : List PieceValue) (at : PieceAt) (count : ℕ) (after : PieceAt) : Type 0 where
  pub low : at.piece ≤ after.piece
  pub high : after.piece ≤ length ps
  pub run : RunOf ps ls now at.piece after.piece
  pub same : take (after.piece - at.piece) (drop at.piece now) ≡ take count (drop at.piece now)
  pub layers : after.layer ≡ at.layer + layer_count (take (after.piece - at.piece) (drop at.piece ps))

pub run_between : (ps : List RowPart) (ls : List (List Place)) (now : List PieceValue) (at : PieceAt) (count : ℕ) (after : PieceAt) → AreLaid (reverse ps) ls → pieces_back (reverse ps) ls ≡ now → IsAt at now → IsAt after now → after.piece ≡ min (at.piece + count) (length now) → RunBetween ps ls now at count after
run_between ps ls now at count after h v p q e =
    let many : length ps ≡ length now = sym (sym (ap length v) ∙ (length_back (reverse ps) ls ∙ length-reverse ps)) in
    let r = run_at ps ps ls now at count after.piece h v p refl (e ∙ ap (min (at.piece + count)) (sym many)) in
    record { low = r.low; high = r.high; run = r.run; same = r.same; layers = q.layer ∙ (r.run.behind ∙ ap (λ n. n + layer_count (take (after.piece - at.piece) (drop at.piece ps))) (sym p.layer)) }

-- with the run once more, or none after a fault
pub run_laid : (r : Result ⊤ AllocError) (ps ps' qs : List RowPart) (ms ms' ls : List (List Place)) → OnOk r (ms' ≡ ms) → OnOk r (ps' ≡ qs) → OnErr r (ms' ≡ []) → OnErr r (ps' ≡ []) → OnOk r (ms ≡ ls) → AreLaid (reverse qs) ls → AreLaid (reverse ps') ms'
run_laid (Ok u) ps ps' qs ms ms' ls m q no_m no_q e h = subst (λ z. AreLaid (reverse z) ms') (sym q) (subst (AreLaid (reverse qs)) (sym (m ∙ e)) h)
run_laid (Err f) ps ps' qs ms ms' ls m q no_m no_q e h = subst (λ z. AreLaid (reverse z) ms') (sym no_q) no_m

pub run_view : (ps' qs : List RowPart) (ms' ls : List (List Place)) {all : List PieceValue} → ps' ≡ qs → ms' ≡ ls → pieces_back (reverse qs) ls ≡ all → pieces_back (reverse ps') ms' ≡ all
run_view ps' qs ms' ls {all} q m v = ap (λ z. pieces_back (reverse z) ms') q ∙ (ap (pieces_back (reverse qs)) m ∙ v)

-- what was laid, where the parts were put
pub run_ok : (P : Type 0) → (laid : Result ⊤ AllocError) → IsOk laid → OnOk laid P → P
run_ok P (Ok u) h p = p
run_ok P (Err e) h p = absurd (let z : ⊥ = cc in z)

pub run_there : (P : Type 0) → (r laid : Result ⊤ AllocError) → OnOk r (IsOk laid) → OnOk laid P → OnOk r P
run_there P (Ok u) laid h p = run_ok P laid h p
run_there P (Err e) laid h p = tt

-- a number that is not past the end
pub place_there : (at : PieceAt) (ps : List RowPart) (ls : List (List Place)) (now : List PieceValue) → AreLaid (reverse ps) ls → pieces_back (reverse ps) ls ≡ now → at.piece ≤ length ps → at.layer ≡ layer_count (take at.piece ps) → IsAt at now
place_there at ps ls now h v few e =
    let many : length now ≡ length ps = sym (ap length v) ∙ (length_back (reverse ps) ls ∙ length-reverse ps) in
    let c = cut_at ps ls now at.piece at.piece h v (omega arith) few in
    record { within = omega (arith, few, many); layer = e ∙ sym (ap layers_of c.first ∙ (same_count (reverse (take at.piece ps)) _ ∙ count_reverse (take at.piece ps))) }
