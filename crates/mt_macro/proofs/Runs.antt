-- The tokens of runs.
use Rattle.std.proofs.Common.{◌≡◌, ℕ, zero, suc, ◌+◌, ◌-◌, ◌<◌, ◌≤◌, true, false, List, [], ◌∷◌, ◌++◌, length, take, drop, get_or, refl, sym, ap, subst, ◌∙◌, arith, append_assoc, length-append}
use Rattle.std.proofs.lemmas.List.{append-nil, take-append-le, drop-append-le, length-drop, drop-drop}
use Rattle.mt_token.specs.declared.token.Token.{Token}
use Rattle.mt_macro.specs.declared.run.Run.{Run}
use Rattle.mt_macro.specs.declared.run.Place.{Place}
use Rattle.mt_macro.specs.declared.run.Place.TheVariants.{Given, Body, Argument, Remainder}
use Rattle.mt_macro.specs.inner.Ends.{joined}
use Rattle.mt_macro.specs.inner.Lengths.{run_len, len_at, is_opened, depth, depth_at, IsWhole}
use Rattle.mt_macro.specs.inner.Runs.{Sources, part, run_tokens, tokens_at, meanings_from, meanings, IsRun, IsRunAt, IsBalanced, AreParts, AreRuns, left, Opens}

-- parts of lists
part_of_more : {A : Type 0} (start end : ℕ) (xs ys : List A) → start < end → end ≤ length xs → part start end (xs ++ ys) ≡ part start end xs
part_of_more start end xs ys h k =
    ap (take (end - start)) (drop-append-le start xs ys (omega (arith, h, k)))
    ∙ take-append-le (end - start) (drop start xs) ys (omega (arith, h, k, length-drop start xs))

pub part_length : {A : Type 0} (n : ℕ) (xs : List A) → n ≤ length xs → length (take n xs) ≡ n
part_length zero xs h = refl
part_length (suc n) [] h = absurd (omega (arith, h))
part_length (suc n) (x ∷ xs) h = ap suc (part_length n xs (omega (arith, h)))

pub part_stays : {A : Type 0} (start end : ℕ) (xs ys : List A) → end ≤ length xs → part start end (xs ++ ys) ≡ part start end xs
part_stays zero zero xs ys h = refl
part_stays zero (suc e) [] ys h = absurd (omega (arith, h))
part_stays zero (suc e) (x ∷ xs) ys h =
    let n : suc e - 0 ≡ suc e = omega arith in
    let m : e - 0 ≡ e = omega arith in
    ap (λ k. take k (x ∷ (xs ++ ys))) n
    ∙ (ap (λ (zs : List _). x ∷ zs) (ap (λ k. take k (xs ++ ys)) (sym m) ∙ (part_stays zero e xs ys (omega (arith, h)) ∙ ap (λ k. take k xs) m))
    ∙ ap (λ k. take k (x ∷ xs)) (sym n))
part_stays (suc s) zero xs ys h = ap (λ n. take n (drop (suc s) (xs ++ ys))) (let e : 0 - suc s ≡ 0 = omega arith in e) ∙ ap (λ n. take n (drop (suc s) xs)) (let e : 0 ≡ 0 - suc s = omega arith in e)
part_stays (suc s) (suc e) [] ys h = absurd (omega (arith, h))
part_stays (suc s) (suc e) (x ∷ xs) ys h =
    let n : suc e - suc s ≡ e - s = omega arith in
    ap (λ k. take k (drop s (xs ++ ys))) n ∙ (part_stays s e xs ys (omega (arith, h)) ∙ ap (λ k. take k (drop s xs)) (sym n))

-- the tokens of a run stay, when parts are added
tokens_more_at : (src : Sources) (ms more : List (List Token)) (p : Place) (s e : ℕ) → IsRunAt src ms p s e → tokens_at src (ms ++ more) p s e ≡ tokens_at src ms p s e
tokens_more_at src ms more Given s e h = refl
tokens_more_at src ms more (Body n) s e h = refl
tokens_more_at src ms more (Argument c) s e h = ap joined (part_of_more s e ms more h.0 h.1)
tokens_more_at src ms more (Remainder c) s e h = ap joined (part_of_more s e ms more h.0 h.1)

pub tokens_more : (src : Sources) (ms more : List (List Token)) (r : Run) → IsRun src ms r → run_tokens src (ms ++ more) r ≡ run_tokens src ms r
tokens_more src ms more r h = tokens_more_at src ms more r.place r.start r.end h

run_more_at : (src : Sources) (ms more : List (List Token)) (p : Place) (s e : ℕ) → IsRunAt src ms p s e → IsRunAt src (ms ++ more) p s e
run_more_at src ms more Given s e h = h
run_more_at src ms more (Body n) s e h = h
run_more_at src ms more (Argument c) s e h =
    let same : joined (part s e ms) ≡ joined (part s e (ms ++ more)) = ap joined (sym (part_of_more s e ms more h.0 h.1)) in
    (h.0, omega (arith, h.1, length-append ms more), h.2 ∙ ap length same, h.3, subst IsBalanced same h.4)
run_more_at src ms more (Remainder c) s e h =
    let same : joined (part s e ms) ≡ joined (part s e (ms ++ more)) = ap joined (sym (part_of_more s e ms more h.0 h.1)) in
    (h.0, omega (arith, h.1, length-append ms more), h.2 ∙ ap length same)

pub run_more : (src : Sources) (ms more : List (List Token)) (r : Run) → IsRun src ms r → IsRun src (ms ++ more) r
run_more src ms more r h = run_more_at src ms more r.place r.start r.end h

pub runs_more : (src : Sources) (ms more : List (List Token)) (rs : List Run) → AreRuns src ms rs → AreRuns src (ms ++ more) rs
runs_more src ms more [] h = tt
runs_more src ms more (r ∷ rs) h = (run_more src ms more r h.0, runs_more src ms more rs h.1)

pub left_more : (src : Sources) (ms more : List (List Token)) (rs : List Run) → AreRuns src ms rs → left src (ms ++ more) rs ≡ left src ms rs
left_more src ms more [] h = refl
left_more src ms more (r ∷ rs) h =
    ap (λ (x : List Token). x ++ run_tokens src (ms ++ more) r) (left_more src ms more rs h.1) ∙ ap (λ (x : List Token). left src ms rs ++ x) (tokens_more src ms more r h.0)

-- a stack with a run more on it
pub left_push : (src : Sources) (ms : List (List Token)) (rs : List Run) (r : Run) → left src ms (rs ++ r ∷ []) ≡ run_tokens src ms r ++ left src ms rs
left_push src ms [] r = sym (append-nil (run_tokens src ms r))
left_push src ms (x ∷ rs) r =
    ap (λ (y : List Token). y ++ run_tokens src ms x) (left_push src ms rs r) ∙ append_assoc (run_tokens src ms r) (left src ms rs) (run_tokens src ms x)

pub runs_push : (src : Sources) (ms : List (List Token)) (rs : List Run) (r : Run) → AreRuns src ms rs → IsRun src ms r → AreRuns src ms (rs ++ r ∷ [])
runs_push src ms [] r h k = (k, tt)
runs_push src ms (x ∷ rs) r h k = (h.0, runs_push src ms rs r h.1 k)

pub runs_pop : (src : Sources) (ms : List (List Token)) (rs : List Run) (r : Run) → AreRuns src ms (rs ++ r ∷ []) → AreRuns src ms rs × IsRun src ms r
runs_pop src ms [] r h = (tt, h.0)
runs_pop src ms (x ∷ rs) r h = let t = runs_pop src ms rs r h.1 in ((h.0, t.0), t.1)

-- the tokens of parts, with a part more
pub meanings_push : (src : Sources) (ms : List (List Token)) (rs : List Run) (r : Run) → meanings_from src ms (rs ++ r ∷ []) ≡ meanings_from src ms rs ++ run_tokens src (meanings_from src ms rs) r ∷ []
meanings_push src ms [] r = refl
meanings_push src ms (x ∷ rs) r = meanings_push src (ms ++ run_tokens src ms x ∷ []) rs r

pub parts_push : (src : Sources) (ms : List (List Token)) (rs : List Run) (r : Run) → AreParts src ms rs → IsRun src (meanings_from src ms rs) r → IsWhole r.place → AreParts src ms (rs ++ r ∷ [])
parts_push src ms [] r h k w = (k, w, tt)
parts_push src ms (x ∷ rs) r h k w = (h.0, h.1, parts_push src (ms ++ run_tokens src ms x ∷ []) rs r h.2 k w)

pub meanings_length : (src : Sources) (ms : List (List Token)) (rs : List Run) → length (meanings_from src ms rs) ≡ length ms + length rs
meanings_length src ms [] = omega arith
meanings_length src ms (r ∷ rs) =
    let e = meanings_length src (ms ++ run_tokens src ms r ∷ []) rs in omega (arith, e, length-append ms (run_tokens src ms r ∷ []))

-- what is added
pub meanings_more : (src : Sources) (ms : List (List Token)) (rs : List Run) → (more : List (List Token)) × (meanings_from src ms rs ≡ ms ++ more)
meanings_more src ms [] = ([], sym (append-nil ms))
meanings_more src ms (r ∷ rs) =
    let m = meanings_more src (ms ++ run_tokens src ms r ∷ []) rs in
    (run_tokens src ms r ∷ m.0, m.1 ∙ append_assoc ms (run_tokens src ms r ∷ []) m.0)

pub meanings_extend : (src : Sources) (ms : List (List Token)) (rs qs : List Run) → meanings_from src ms (rs ++ qs) ≡ meanings_from src (meanings_from src ms rs) qs
meanings_extend src ms [] qs = refl
meanings_extend src ms (r ∷ rs) qs = meanings_extend src (ms ++ run_tokens src ms r ∷ []) rs qs

get_at : {A : Type 0} (xs : List A) (d : A) (ys : List A) → get_or (xs ++ d ∷ ys) (length xs) d ≡ d
get_at [] d ys = refl
get_at (x ∷ xs) d ys = get_at xs d ys

-- a part that is there
pub record Part (src : Sources) (ms : List (List Token)) (rs : List Run) (i : ℕ) (r : Run) : Type 0 where
  pub run : IsRun src (meanings_from src ms rs) r
  pub whole : IsWhole r.place
  pub older : depth r ≤ length ms + i
  pub is : (n : ℕ) → n ≡ length ms + i → (after : List (List Token)) × (drop n (meanings_from src ms rs) ≡ run_tokens src (meanings_from src ms rs) r ∷ after)

depth_small : (src : Sources) (ms : List (List Token)) (p : Place) (s e : ℕ) → IsRunAt src ms p s e → depth_at p e ≤ length ms
depth_small src ms Given s e h = omega arith
depth_small src ms (Body n) s e h = omega arith
depth_small src ms (Argument c) s e h = h.1
depth_small src ms (Remainder c) s e h = h.1

drop_all_of : {A : Type 0} (xs ys : List A) → drop (length xs) (xs ++ ys) ≡ ys
drop_all_of [] ys = refl
drop_all_of (x ∷ xs) ys = drop_all_of xs ys

pub part_at : (src : Sources) (ms : List (List Token)) (rs : List Run) (i : ℕ) (r : Run) → AreParts src ms rs → i < length rs → r ≡ get_or rs i r → Part src ms rs i r
part_at src ms [] i r h k e = absurd (omega (arith, k))
part_at src ms (x ∷ rs) zero r h k e =
    let m = meanings_more src (ms ++ run_tokens src ms x ∷ []) rs in
    let all : meanings_from src ms (x ∷ rs) ≡ ms ++ (run_tokens src ms x ∷ m.0) = m.1 ∙ append_assoc ms (run_tokens src ms x ∷ []) m.0 in
    let here : Part src ms (x ∷ rs) zero x = record {
      run = subst (λ (l : List (List Token)). IsRun src l x) (sym all) (run_more src ms (run_tokens src ms x ∷ m.0) x h.0);
      whole = h.1;
      older = (let d = depth_small src ms x.place x.start x.end h.0 in omega (arith, d));
      is = λ n z. (
        m.0,
        ap (λ k. drop k (meanings_from src ms (x ∷ rs))) (let y : n ≡ length ms = omega (arith, z) in y)
            ∙ (ap (drop (length ms)) all ∙ (drop_all_of ms (run_tokens src ms x ∷ m.0)
            ∙ ap (λ (t : List Token). t ∷ m.0) (sym (ap (λ (l : List (List Token)). run_tokens src l x) all ∙ tokens_more src ms (run_tokens src ms x ∷ m.0) x h.0)))),
      );
    } in
    subst (λ (q : Run). Part src ms (x ∷ rs) zero q) (sym e) here
part_at src ms (x ∷ rs) (suc i) r h k e =
    let p = part_at src (ms ++ run_tokens src ms x ∷ []) rs i r h.2 (omega (arith, k)) e in
    let size : length (ms ++ run_tokens src ms x ∷ []) ≡ length ms + 1 = length-append ms (run_tokens src ms x ∷ []) in
    record {
      run = p.run;
      whole = p.whole;
      older = omega (arith, p.older, size);
      is = λ n z. p.is n (omega (arith, z, size));
    }

-- the length of a run
run_length_at : (src : Sources) (ms : List (List Token)) (p : Place) (s e : ℕ) → IsRunAt src ms p s e → len_at p s e ≡ length (tokens_at src ms p s e)
run_length_at src ms Given s e h = sym (part_length (e - s) (drop s src.list) (omega (arith, h.0, h.1, length-drop s src.list)))
run_length_at src ms (Body n) s e h = sym (part_length (e - s) (drop s (src.body n)) (omega (arith, h.0, h.1, length-drop s (src.body n))))
run_length_at src ms (Argument c) s e h = h.2
run_length_at src ms (Remainder c) s e h = h.2

pub run_length : (src : Sources) (ms : List (List Token)) (r : Run) → IsRun src ms r → run_len r ≡ length (run_tokens src ms r)
run_length src ms r h = run_length_at src ms r.place r.start r.end h

-- an argument and its first part
first_part : (s e : ℕ) (ms : List (List Token)) (t : List Token) (after : List (List Token)) → s < e → drop s ms ≡ t ∷ after → joined (part s e ms) ≡ t ++ joined (part (s + 1) e ms)
first_part s e ms t after h d =
    let n : e - s ≡ suc (e - (s + 1)) = omega (arith, h) in
    let r : drop (s + 1) ms ≡ after = sym (drop-drop 1 s ms) ∙ ap (drop 1) d in
    ap joined (ap (λ k. take k (drop s ms)) n ∙ ap (take (suc (e - (s + 1)))) d)
    ∙ ap (λ (x : List (List Token)). t ++ joined (take (e - (s + 1)) x)) (sym r)

-- the parts of a run
pub record Parted (src : Sources) (ms : List (List Token)) (r : Run) : Type 0 where
  pub low : r.start < r.end
  pub high : r.end ≤ length ms
  pub count : run_len r ≡ length (joined (part r.start r.end ms))
  pub is : run_tokens src ms r ≡ joined (part r.start r.end ms)

parted_at : (src : Sources) (ms : List (List Token)) (p : Place) (s e : ℕ) → IsRunAt src ms p s e → is_opened p ≡ true → Parted src ms (record { place = p; start = s; end = e })
parted_at src ms Given s e h o = absurd (let f : false ≡ true = o in cc)
parted_at src ms (Body n) s e h o = absurd (let f : false ≡ true = o in cc)
parted_at src ms (Argument c) s e h o = record { low = h.0; high = h.1; count = h.2; is = refl }
parted_at src ms (Remainder c) s e h o = record { low = h.0; high = h.1; count = h.2; is = refl }

pub parted : (src : Sources) (ms : List (List Token)) (r : Run) → IsRun src ms r → is_opened r.place ≡ true → Parted src ms r
parted src ms r h o = parted_at src ms r.place r.start r.end h o

pub opens_more : (src : Sources) (parts before after : List Run) (r first rest : Run) (count : ℕ) → AreParts src [] parts → AreRuns src (meanings src parts) before → IsRun src (meanings src parts) r
    → is_opened r.place ≡ true → first ≡ get_or parts r.start first → count ≡ run_len r - run_len first → rest ≡ record { place = Remainder count; start = r.start + 1; end = r.end }
    → r.start + 1 < r.end → after ≡ before ++ rest ∷ [] → Opens src parts before after r first
opens_more src parts before after r first rest n l b h o f z e k a =
    let ms = meanings src parts in
    let p = parted src ms r h o in
    let size = meanings_length src [] parts in
    let q = part_at src [] parts r.start first l (omega (arith, p.low, p.high, size)) f in
    let d = q.is r.start (omega arith) in
    let split = first_part r.start r.end ms (run_tokens src ms first) d.0 p.low d.1 in
    let made : Run = record { place = Remainder n; start = r.start + 1; end = r.end } in
    let count : n ≡ length (joined (part (r.start + 1) r.end ms)) =
    omega (arith, z, p.count, ap length split, length-append (run_tokens src ms first) (joined (part (r.start + 1) r.end ms)), run_length src ms first q.run) in
    let is_run : IsRun src ms made = (k, p.high, count) in
    let pushed : after ≡ before ++ made ∷ [] = a ∙ ap (λ (x : Run). before ++ x ∷ []) e in
    record {
      runs = subst (AreRuns src ms) (sym pushed) (runs_push src ms before made b is_run);
      known = q.run;
      whole = q.whole;
      fits = omega (arith, p.count, ap length split, length-append (run_tokens src ms first) (joined (part (r.start + 1) r.end ms)), run_length src ms first q.run);
      is = ap (λ (x : List Token). x ++ left src ms before) (p.is ∙ split)
          ∙ (append_assoc (run_tokens src ms first) (joined (part (r.start + 1) r.end ms)) (left src ms before)
          ∙ ap (λ (x : List Token). run_tokens src ms first ++ x) (sym (left_push src ms before made) ∙ ap (left src ms) (sym pushed)));
    }

pub opens_last : (src : Sources) (parts before after : List Run) (r first : Run) → AreParts src [] parts → AreRuns src (meanings src parts) before → IsRun src (meanings src parts) r
    → is_opened r.place ≡ true → first ≡ get_or parts r.start first
    → r.end ≤ r.start + 1 → after ≡ before → Opens src parts before after r first
opens_last src parts before after r first l b h o f k a =
    let ms = meanings src parts in
    let p = parted src ms r h o in
    let size = meanings_length src [] parts in
    let q = part_at src [] parts r.start first l (omega (arith, p.low, p.high, size)) f in
    let d = q.is r.start (omega arith) in
    let split = first_part r.start r.end ms (run_tokens src ms first) d.0 p.low d.1 in
    let none : joined (part (r.start + 1) r.end ms) ≡ [] = ap (λ n. joined (take n (drop (r.start + 1) ms))) (let y : r.end - (r.start + 1) ≡ 0 = omega (arith, k) in y) in
    record {
      runs = subst (AreRuns src ms) (sym a) b;
      known = q.run;
      whole = q.whole;
      fits = omega (arith, p.count, ap length split, length-append (run_tokens src ms first) (joined (part (r.start + 1) r.end ms)), run_length src ms first q.run);
      is = ap (λ (x : List Token). x ++ left src ms before) (p.is ∙ (split ∙ (ap (λ (x : List Token). run_tokens src ms first ++ x) none ∙ append-nil (run_tokens src ms first))))
          ∙ ap (λ (x : List Run). run_tokens src ms first ++ left src ms x) (sym a);
    }

depth_is_at : (p : Place) (e : ℕ) → is_opened p ≡ true → depth_at p e ≡ e
depth_is_at Given e o = absurd (let f : false ≡ true = o in cc)
depth_is_at (Body n) e o = absurd (let f : false ≡ true = o in cc)
depth_is_at (Argument c) e o = refl
depth_is_at (Remainder c) e o = refl

depth_is : (r : Run) → is_opened r.place ≡ true → depth r ≡ r.end
depth_is r o = depth_is_at r.place r.end o

pub get_again : {A : Type 0} (xs : List A) (i : ℕ) (d : A) → i < length xs → get_or xs i d ≡ get_or xs i (get_or xs i d)
get_again [] i d h = absurd (omega (arith, h))
get_again (x ∷ xs) zero d h = refl
get_again (x ∷ xs) (suc i) d h = get_again xs i d (omega (arith, h))

pub older : (src : Sources) (parts : List Run) (r first : Run) → AreParts src [] parts → IsRun src (meanings src parts) r → is_opened r.place ≡ true → first ≡ get_or parts r.start first → depth first < depth r
older src parts r first l h o f =
    let p = parted src (meanings src parts) r h o in
    let size = meanings_length src [] parts in
    let q = part_at src [] parts r.start first l (omega (arith, p.low, p.high, size)) f in
    omega (arith, q.older, p.low, depth_is r o)

pub in_parts : (src : Sources) (parts : List Run) (r : Run) → IsRun src (meanings src parts) r → is_opened r.place ≡ true → (r.start < length parts) × (r.start < r.end)
in_parts src parts r h o =
    let p = parted src (meanings src parts) r h o in
    let size = meanings_length src [] parts in
    (omega (arith, p.low, p.high, size), p.low)
