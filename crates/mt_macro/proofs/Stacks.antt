-- A stack of runs.
use Rattle.std.proofs.Common.{◌≡◌, ℕ, zero, suc, ◌+◌, ◌-◌, ◌<◌, ◌≤◌, ◌^◌, true, false, List, [], ◌∷◌, ◌++◌, length, take, drop, map, get_or, refl, sym, ap, subst, ◌∙◌, arith, length-append}
use Rattle.std.proofs.lemmas.List.{length-drop, length-map}
use Rattle.mt_token.specs.declared.token.Token.{Token}
use Rattle.mt_macro.specs.declared.run.Run.{Run}
use Rattle.mt_macro.specs.declared.run.Place.{Place}
use Rattle.mt_macro.specs.declared.run.Place.TheVariants.{Given, Body, Argument, Remainder}
use Rattle.mt_macro.specs.declared.stack.Rest.{Rest}
use Rattle.mt_macro.specs.inner.Lengths.{run_len, is_opened, is_remainder, IsBasic, IsWhole}
use Rattle.mt_macro.specs.inner.Runs.{Sources, part, run_tokens, tokens_at, meanings, IsRun, IsRunAt, AreRuns, AreLeft, left, left_of, Opens, GivesRun, GivesToken, place_tokens}
use Rattle.mt_macro.proofs.Runs.{left_push, runs_push, runs_pop, run_length, part_length}

pub no_items : {A : Type 0} (xs : List A) → length xs ≡ 0 → xs ≡ []
no_items [] h = refl
no_items (x ∷ xs) h = absurd (omega (arith, h))

is_whole : (p : Place) → is_remainder p ≡ false → IsWhole p
is_whole Given h = tt
is_whole (Body n) h = tt
is_whole (Argument c) h = tt
is_whole (Remainder c) h = absurd (let f : true ≡ false = h in cc)

pub remainder_opened : (p : Place) → is_remainder p ≡ true → is_opened p ≡ true
remainder_opened Given h = absurd (let f : false ≡ true = h in cc)
remainder_opened (Body n) h = absurd (let f : false ≡ true = h in cc)
remainder_opened (Argument c) h = refl
remainder_opened (Remainder c) h = refl

pub opened_basic : (p : Place) → is_opened p ≡ false → IsBasic p
opened_basic Given h = tt
opened_basic (Body n) h = tt
opened_basic (Argument c) h = absurd (let f : true ≡ false = h in cc)
opened_basic (Remainder c) h = absurd (let f : true ≡ false = h in cc)

pub opens_itself : (src : Sources) (parts before : List Run) (r : Run) → AreRuns src (meanings src parts) before → IsRun src (meanings src parts) r → is_remainder r.place ≡ false → Opens src parts before before r r
opens_itself src parts before r b h w = record { runs = b; known = h; whole = is_whole r.place w; fits = omega arith; is = refl }

-- a stack without runs
pub gives_end : (src : Sources) (parts : List Run) (rest : Rest) → length rest.runs.items ≡ 0 → left_of src parts rest ≡ []
gives_end src parts rest h = ap (left src (meanings src parts)) (no_items rest.runs.items h)

pub gives_run : (src : Sources) (parts xs after : List Run) (before rest : Rest) (r first : Run) (n : ℕ) → AreLeft src parts before → before.runs.items ≡ xs ++ r ∷ []
    → Opens src parts xs after r first → rest.runs.items ≡ after → n ≡ before.count - run_len first → rest.count ≡ n → GivesRun src parts before rest first
gives_run src parts xs after before rest r first n l e o a k c =
    let ms = meanings src parts in
    let is : left_of src parts before ≡ run_tokens src ms first ++ left src ms after = ap (left src ms) e ∙ (left_push src ms xs r ∙ o.is) in
    let same : left_of src parts rest ≡ left src ms after = ap (left src ms) a in
    record {
      below = record {
        parts_are = l.parts_are;
        runs = subst (AreRuns src ms) (sym a) o.runs;
        counted = omega (arith, c, k, l.counted, ap length is, length-append (run_tokens src ms first) (left src ms after), run_length src ms first o.known, ap length same);
      };
      known = o.known;
      whole = o.whole;
      is = is ∙ ap (λ (x : List Token). run_tokens src ms first ++ x) (sym same);
    }

pub popped : (src : Sources) (parts xs : List Run) (before : Rest) (r : Run) → AreLeft src parts before → before.runs.items ≡ xs ++ r ∷ [] → AreRuns src (meanings src parts) xs × IsRun src (meanings src parts) r
popped src parts xs before r l e = runs_pop src (meanings src parts) xs r (subst (AreRuns src (meanings src parts)) e l.runs)

-- the first part in place of an argument
pub gives_part : (src : Sources) (parts after : List Run) (before middle rest : Rest) (r first : Run) (n : ℕ) → GivesRun src parts before middle r
    → Opens src parts middle.runs.items after r first → rest.runs.items ≡ after → n ≡ middle.count + (run_len r - run_len first) → rest.count ≡ n → GivesRun src parts before rest first
gives_part src parts after before middle rest r first n g o a k c =
    let ms = meanings src parts in
    let is : left_of src parts before ≡ run_tokens src ms first ++ left src ms after = g.is ∙ o.is in
    let same : left_of src parts rest ≡ left src ms after = ap (left src ms) a in
    record {
      below = record {
        parts_are = g.below.parts_are;
        runs = subst (AreRuns src ms) (sym a) o.runs;
        counted = omega (arith, c, k, o.fits, g.below.counted, ap length g.is, ap length is, length-append (run_tokens src ms r) (left_of src parts middle), length-append (run_tokens src ms first) (left src ms after), run_length src ms first o.known, run_length src ms r g.known, ap length same);
      };
      known = o.known;
      whole = o.whole;
      is = is ∙ ap (λ (x : List Token). run_tokens src ms first ++ x) (sym same);
    }

pub part_bound : (src : Sources) (parts : List Run) (before middle : Rest) (r first : Run) → GivesRun src parts before middle r → length (left_of src parts before) < 2 ^ 63
    → middle.count + (run_len r - run_len first) < 2 ^ 64
part_bound src parts before middle r first g h =
    omega (arith, h, g.below.counted, ap length g.is, length-append (run_tokens src (meanings src parts) r) (left_of src parts middle), run_length src (meanings src parts) r g.known)

-- a basic run is a part of the items of its place
pub basic_tokens_at : (src : Sources) (ms : List (List Token)) (p : Place) (s e : ℕ) → IsBasic p → tokens_at src ms p s e ≡ part s e (place_tokens src p)
basic_tokens_at src ms Given s e b = refl
basic_tokens_at src ms (Body n) s e b = refl
basic_tokens_at src ms (Argument c) s e b = absurd b
basic_tokens_at src ms (Remainder c) s e b = absurd b

pub basic_tokens : (src : Sources) (ms : List (List Token)) (r : Run) → IsBasic r.place → run_tokens src ms r ≡ part r.start r.end (place_tokens src r.place)
basic_tokens src ms r b = basic_tokens_at src ms r.place r.start r.end b

basic_bounds_at : (src : Sources) (ms : List (List Token)) (p : Place) (s e : ℕ) → IsBasic p → IsRunAt src ms p s e → (s < e) × (e ≤ length (place_tokens src p))
basic_bounds_at src ms Given s e b h = h
basic_bounds_at src ms (Body c) s e b h = (h.0, h.1)
basic_bounds_at src ms (Argument c) s e b h = absurd b
basic_bounds_at src ms (Remainder c) s e b h = absurd b

pub basic_bounds : (src : Sources) (ms : List (List Token)) (r : Run) → IsBasic r.place → IsRun src ms r → (r.start < r.end) × (r.end ≤ length (place_tokens src r.place))
basic_bounds src ms r b h = basic_bounds_at src ms r.place r.start r.end b h

-- an other part of a basic run
pub basic_is_at : (src : Sources) (ms : List (List Token)) (p : Place) (s e s' e' : ℕ) → IsBasic p → IsRunAt src ms p s' e' → s < e → e ≤ length (place_tokens src p) → IsRunAt src ms p s e
basic_is_at src ms Given s e s' e' b r h k = (h, k)
basic_is_at src ms (Body c) s e s' e' b r h k = (h, k, r.2)
basic_is_at src ms (Argument c) s e s' e' b r h k = absurd b
basic_is_at src ms (Remainder c) s e s' e' b r h k = absurd b

pub basic_whole : (p : Place) → IsBasic p → IsWhole p
basic_whole Given b = tt
basic_whole (Body n) b = tt
basic_whole (Argument c) b = absurd b
basic_whole (Remainder c) b = absurd b

-- a part and what follows it in a longer one
pub part_split : {A : Type 0} (s m e : ℕ) (xs : List A) → s ≤ m → m ≤ e → e ≤ length xs → part s e xs ≡ part s m xs ++ part m e xs
part_split zero zero e xs h k l = refl
part_split zero (suc m) zero xs h k l = absurd (omega (arith, k))
part_split zero (suc m) (suc e) [] h k l = absurd (omega (arith, l))
part_split zero (suc m) (suc e) (x ∷ xs) h k l =
    let a : suc e - suc m ≡ e - m = omega arith in
    let b : suc e - 0 ≡ suc e = omega arith in
    let c : e - 0 ≡ e = omega arith in
    let d : m - 0 ≡ m = omega arith in
    let f : suc m - 0 ≡ suc m = omega arith in
    ap (λ n. take n (x ∷ xs)) b
    ∙ (ap (λ (ys : List _). x ∷ ys) (ap (λ n. take n xs) (sym c) ∙ (part_split zero m e xs (omega arith) (omega (arith, k)) (omega (arith, l)) ∙ ap (λ n. take n xs ++ take (e - m) (drop m xs)) d))
    ∙ (ap (λ n. take n (x ∷ xs) ++ take (e - m) (drop m xs)) (sym f) ∙ ap (λ n. take (suc m - 0) (x ∷ xs) ++ take n (drop m xs)) (sym a)))
part_split (suc s) zero e xs h k l = absurd (omega (arith, h))
part_split (suc s) (suc m) zero xs h k l = absurd (omega (arith, k))
part_split (suc s) (suc m) (suc e) [] h k l = absurd (omega (arith, l))
part_split (suc s) (suc m) (suc e) (x ∷ xs) h k l =
    let a : suc e - suc s ≡ e - s = omega arith in
    let b : suc m - suc s ≡ m - s = omega arith in
    let c : suc e - suc m ≡ e - m = omega arith in
    ap (λ n. take n (drop s xs)) a ∙ (part_split s m e xs (omega (arith, h)) (omega (arith, k)) (omega (arith, l))
    ∙ (ap (λ n. take n (drop s xs) ++ take (e - m) (drop m xs)) (sym b) ∙ ap (λ n. take (suc m - suc s) (drop s xs) ++ take n (drop m xs)) (sym c)))

pub part_empty : {A : Type 0} (s e : ℕ) (xs : List A) → e ≤ s → part s e xs ≡ []
part_empty s e xs h = ap (λ n. take n (drop s xs)) (let y : e - s ≡ 0 = omega (arith, h) in y)

pub part_size : {A : Type 0} (s e : ℕ) (xs : List A) → s ≤ e → e ≤ length xs → length (part s e xs) ≡ e - s
part_size s e xs h k = part_length (e - s) (drop s xs) (omega (arith, h, k, length-drop s xs))

-- items put before the rest
pub put_more : (src : Sources) (parts : List Run) (before rest : Rest) (r new : Run) (from : ℕ) → AreLeft src parts before → IsRun src (meanings src parts) r → IsBasic r.place
    → r.start ≤ from → from < r.end → new ≡ record { place = r.place; start = from; end = r.end } → rest.runs.items ≡ before.runs.items ++ new ∷ []
    → rest.count ≡ before.count + (r.end - from)
    → AreLeft src parts rest × (left_of src parts rest ≡ part from r.end (place_tokens src r.place) ++ left_of src parts before)
put_more src parts before rest r new from l h b low high e a c =
    let ms = meanings src parts in
    let bounds = basic_bounds src ms r b h in
    let made : Run = record { place = r.place; start = from; end = r.end } in
    let pushed : rest.runs.items ≡ before.runs.items ++ made ∷ [] = a ∙ ap (λ (x : Run). before.runs.items ++ x ∷ []) e in
    let is_run : IsRun src ms made = basic_is_at src ms r.place from r.end r.start r.end b h high bounds.1 in
    let is : left_of src parts rest ≡ part from r.end (place_tokens src r.place) ++ left_of src parts before =
    ap (left src ms) pushed ∙ (left_push src ms before.runs.items made ∙ ap (λ (x : List Token). x ++ left_of src parts before) (basic_tokens src ms made b)) in (
      record {
        parts_are = l.parts_are;
        runs = subst (AreRuns src ms) (sym pushed) (runs_push src ms before.runs.items made l.runs is_run);
        counted = omega (arith, c, l.counted, ap length is, length-append (part from r.end (place_tokens src r.place)) (left_of src parts before), part_size from r.end (place_tokens src r.place) (omega (arith, high)) bounds.1);
      },
      is,
    )

pub put_none : (src : Sources) (parts : List Run) (before : Rest) (r : Run) (from : ℕ) → r.end ≤ from → left_of src parts before ≡ part from r.end (place_tokens src r.place) ++ left_of src parts before
put_none src parts before r from h = ap (λ (x : List Token). x ++ left_of src parts before) (sym (part_empty from r.end (place_tokens src r.place) h))

-- the first item of a run
pub one_of : (xs : List Token) (s : ℕ) (t : Token) → s < length xs → t ≡ get_or xs s t → part s (s + 1) xs ≡ t ∷ []
one_of [] s t h e = absurd (omega (arith, h))
one_of (x ∷ xs) zero t h e = ap (λ (y : Token). y ∷ []) (sym e)
one_of (x ∷ xs) (suc s) t h e =
    ap (λ n. take n (drop s xs)) (let a : suc s + 1 - suc s ≡ s + 1 - s = omega arith in a) ∙ one_of xs s t (omega (arith, h)) e

pub gives_token : (src : Sources) (parts : List Run) (before middle rest : Rest) (r one : Run) (t : Token) → GivesRun src parts before middle r → IsBasic r.place
    → AreLeft src parts rest → left_of src parts rest ≡ part (r.start + 1) r.end (place_tokens src r.place) ++ left_of src parts middle
    → one ≡ record { place = r.place; start = r.start; end = r.start + 1 } → part r.start (r.start + 1) (place_tokens src r.place) ≡ t ∷ []
    → GivesToken src parts before rest t one
gives_token src parts before middle rest r one t g b l is e item =
    let ms = meanings src parts in
    let bounds = basic_bounds src ms r b g.known in
    let made : Run = record { place = r.place; start = r.start; end = r.start + 1 } in
    let alone : run_tokens src ms made ≡ t ∷ [] = basic_tokens src ms made b ∙ item in
    let split = part_split r.start (r.start + 1) r.end (place_tokens src r.place) (omega arith) (omega (arith, bounds.0)) bounds.1 in
    record {
      below = l;
      known = subst (IsRun src ms) (sym e) (basic_is_at src ms r.place r.start (r.start + 1) r.start r.end b g.known (omega arith) (omega (arith, bounds.0, bounds.1)));
      whole = subst (λ (x : Run). IsWhole x.place) (sym e) (basic_whole r.place b);
      alone = ap (run_tokens src ms) e ∙ alone;
      is = g.is ∙ (ap (λ (x : List Token). x ++ left_of src parts middle) (basic_tokens src ms r b ∙ (split ∙ ap (λ (x : List Token). x ++ part (r.start + 1) r.end (place_tokens src r.place)) item))
          ∙ ap (λ (x : List Token). t ∷ x) (sym is));
    }

pub mapped_get : {T : Type 0} (f : T → Token) (xs : List T) (s : ℕ) (t : T) → s < length xs → t ≡ get_or xs s t → f t ≡ get_or (map f xs) s (f t)
mapped_get f [] s t h e = absurd (omega (arith, h))
mapped_get f (x ∷ xs) zero t h e = ap f e
mapped_get f (x ∷ xs) (suc s) t h e = mapped_get f xs s t (omega (arith, h)) e

pub one_mapped : {T : Type 0} (f : T → Token) (all : List Token) (xs : List T) (s : ℕ) (t : T) → map f xs ≡ all → s < length xs → t ≡ get_or xs s t → part s (s + 1) all ≡ f t ∷ []
one_mapped f all xs s t m h e =
    ap (part s (s + 1)) (sym m) ∙ one_of (map f xs) s (f t) (omega (arith, h, length-map xs f)) (mapped_get f xs s t h e)
