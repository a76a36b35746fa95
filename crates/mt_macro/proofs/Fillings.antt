-- Bodies that are filled.
use Rattle.std.proofs.Common.{◌≡◌, ℕ, zero, suc, ◌+◌, ◌-◌, ◌*◌, ◌<◌, ◌≤◌, ◌^◌, Bool, true, false, List, [], ◌∷◌, ◌++◌, length, take, drop, map, get_or, refl, sym, ap, subst, ◌∙◌, arith, append_assoc, length-append}
use Rattle.std.specs.Prelude.{Some, None, Result, Ok, Err, OnOk, ◌&&◌}
use Rattle.std.proofs.lemmas.List.{append-nil, length-drop, drop-drop, take_all, length-map}
use Rattle.mt_token.specs.declared.token.Token.{Token}
use Rattle.mt_token.specs.Character.{character_code}
use Rattle.mt_macro.specs.Arguments.{fill}
use Rattle.mt_macro.specs.inner.Ends.{joined}
use Rattle.mt_macro.specs.inner.Bodies.{begins_parameter, next_parameter}
use Rattle.std.proofs.lemmas.Bool.{true≢false}
use Rattle.mt_macro.specs.Parameters.{is_hash}
use Rattle.mt_macro.proofs.BodyParameters.{parameter_here, parameter_later, filled_at, filled_none}
use Rattle.mt_macro.proofs.Ending.{joined_more}
use Rattle.mt_macro.proofs.Indexes.{shifted, shifted_none, shifted_next, shifted_here}
use Rattle.mt_macro.specs.declared.run.Run.{Run}
use Rattle.mt_macro.specs.declared.stack.Rest.{Rest}
use Rattle.mt_macro.specs.inner.Lengths.{run_len}
use Rattle.mt_macro.specs.inner.Runs.{Sources, part, run_tokens, all_tokens, IsRun, IsGiven, AreGiven, AreRuns, AreShort}
use Rattle.mt_macro.specs.inner.Fillings.{Puts, Fills}
use Rattle.mt_macro.proofs.Runs.{runs_push, run_length}
use Rattle.mt_macro.proofs.Stacks.{mapped_get}
use Rattle.mt_macro.proofs.Balances.{part_mapped}
use Rattle.mt_macro.proofs.Gathers.{tokens_push}

pub puts_none : (src : Sources) (ms : List (List Token)) (old : Rest) (tokens : List Token) → tokens ≡ [] → Puts src ms old old tokens
puts_none src ms old tokens e = record {
  runs = λ h. h;
  is = sym (append-nil (joined (all_tokens src ms old.runs.items))) ∙ ap (λ (x : List Token). joined (all_tokens src ms old.runs.items) ++ x) (sym e);
  counted = omega (arith, ap length e);
}

pub puts_run : (src : Sources) (ms : List (List Token)) (old new : Rest) (r : Run) (tokens : List Token) → IsRun src ms r → new.runs.items ≡ old.runs.items ++ r ∷ []
    → new.count ≡ old.count + run_len r → tokens ≡ run_tokens src ms r → Puts src ms old new tokens
puts_run src ms old new r tokens h e c t = record {
  runs = λ k. subst (AreRuns src ms) (sym e) (runs_push src ms old.runs.items r k h);
  is = ap (λ (x : List Run). joined (all_tokens src ms x)) e ∙ (ap joined (tokens_push src ms old.runs.items r)
      ∙ (joined_more (all_tokens src ms old.runs.items) (run_tokens src ms r) ∙ ap (λ (x : List Token). joined (all_tokens src ms old.runs.items) ++ x) (sym t)));
  counted = omega (arith, c, run_length src ms r h, ap length t);
}

pub given_beyond : (src : Sources) (ms : List (List Token)) (rs : List Run) (i : ℕ) → length rs ≤ i → get_or (all_tokens src ms rs) i [] ≡ []
given_beyond src ms [] i h = refl
given_beyond src ms (r ∷ rs) zero h = absurd (omega (arith, h))
given_beyond src ms (r ∷ rs) (suc i) h = given_beyond src ms rs i (omega (arith, h))

pub given_at : (src : Sources) (ms : List (List Token)) (rs : List Run) (i : ℕ) (r : Run) → AreGiven src ms rs → i < length rs → r ≡ get_or rs i r
    → IsGiven src ms r × (get_or (all_tokens src ms rs) i [] ≡ run_tokens src ms r)
given_at src ms [] i r g h e = absurd (omega (arith, h))
given_at src ms (x ∷ rs) zero r g h e = (subst (IsGiven src ms) (sym e) g.0, ap (run_tokens src ms) (sym e))
given_at src ms (x ∷ rs) (suc i) r g h e = given_at src ms rs i r g.1 (omega (arith, h)) e

pub short_at : (rs : List Run) (i : ℕ) (r : Run) → AreShort rs → i < length rs → r ≡ get_or rs i r → run_len r < 2 ^ 31
short_at [] i r g h e = absurd (omega (arith, h))
short_at (x ∷ rs) zero r g h e = omega (arith, g.0, ap run_len e)
short_at (x ∷ rs) (suc i) r g h e = short_at rs i r g.1 (omega (arith, h)) e

no_tokens : (xs : List Token) → length xs ≡ 0 → xs ≡ []
no_tokens [] h = refl
no_tokens (x ∷ xs) h = absurd (omega (arith, h))

pub puts_empty : (src : Sources) (ms : List (List Token)) (old : Rest) (rs : List Run) (i : ℕ) (r : Run) → AreGiven src ms rs → i < length rs → r ≡ get_or rs i r → run_len r ≡ 0
    → Puts src ms old old (get_or (all_tokens src ms rs) i [])
puts_empty src ms old rs i r g h e z =
    let q = given_at src ms rs i r g h e in
    puts_none src ms old _ (no_tokens _ (omega (arith, ap length q.1, q.0.count, z)))

pub puts_given : (src : Sources) (ms : List (List Token)) (old new : Rest) (rs : List Run) (i : ℕ) (r : Run) → AreGiven src ms rs → i < length rs → r ≡ get_or rs i r → 0 < run_len r
    → new.runs.items ≡ old.runs.items ++ r ∷ [] → new.count ≡ old.count + run_len r → Puts src ms old new (get_or (all_tokens src ms rs) i [])
puts_given src ms old new rs i r g h e low a c =
    let q = given_at src ms rs i r g h e in
    puts_run src ms old new r _ (q.0.there low).0 a c q.1

and_no : (b : Bool) → b && false ≡ false
and_no true = refl
and_no false = refl

-- the first parameter
pub record Walking (body : List Token) (at : ℕ) (rest : List Token) : Type 0 where
  pub is : next_parameter body ≡ shifted at (next_parameter rest)
  pub size : at + length rest ≡ length body

pub walking_start : (body : List Token) → Walking body 0 body
walking_start body = record { is = shifted_none _; size = omega arith }

pub walking_here : (at : ℕ) (body rest rest' : List Token) (t : Token) → Walking body at rest → rest ≡ t ∷ rest' → begins_parameter t rest' ≡ true → Some at ≡ next_parameter body
walking_here at body rest rest' t g e h =
    sym (g.is ∙ (ap (λ xs. shifted at (next_parameter xs)) e ∙ (ap (shifted at) (parameter_here t rest' h) ∙ shifted_here at)))

not_last : (t : Token) → begins_parameter t [] ≡ true → ⊥
not_last t h = true≢false (sym h ∙ and_no (is_hash t))

after_parameter : (t : Token) (rest : List Token) → begins_parameter t rest ≡ true → 1 ≤ length rest
after_parameter t [] h = absurd (not_last t h)
after_parameter t (u ∷ rest) h = omega arith

pub walking_within : (at : ℕ) (body rest rest' : List Token) (t : Token) → Walking body at rest → rest ≡ t ∷ rest' → begins_parameter t rest' ≡ true → at + 1 < length body
walking_within at body rest rest' t g e h = let a = after_parameter t rest' h in omega (arith, g.size, ap length e, a)

pub walking_more : (at : ℕ) (body rest rest' : List Token) (t : Token) → Walking body at rest → rest ≡ t ∷ rest' → begins_parameter t rest' ≡ false → Walking body (at + 1) rest'
walking_more at body rest rest' t g e h = record {
  is = g.is ∙ (ap (λ xs. shifted at (next_parameter xs)) e ∙ (ap (shifted at) (parameter_later t rest' h) ∙ shifted_next at _));
  size = omega (arith, g.size, ap length e);
}

pub walking_end : (at : ℕ) (body rest : List Token) → Walking body at rest → rest ≡ [] → None ≡ next_parameter body
walking_end at body rest g e = sym (g.is ∙ ap (λ xs. shifted at (next_parameter xs)) e)

take_few : (n : ℕ) (xs : List Token) → length (take n xs) ≤ n
take_few zero xs = omega arith
take_few (suc n) [] = omega arith
take_few (suc n) (x ∷ xs) = let w = take_few n xs in omega (arith, w)

get_dropped : (at i n : ℕ) (xs : List Token) (t : Token) → n ≡ at + i → get_or xs n t ≡ get_or (drop at xs) i t
get_dropped zero i n xs t e = ap (λ k. get_or xs k t) (let y : n ≡ i = omega (arith, e) in y)
get_dropped (suc at) i n [] t e = refl
get_dropped (suc at) i zero (x ∷ xs) t e = absurd (omega (arith, e))
get_dropped (suc at) i (suc n) (x ∷ xs) t e = get_dropped at i n xs t (omega (arith, e))

-- a body that is filled from its first token on
pub record Filling (src : Sources) (ms : List (List Token)) (body : List Token) (taken : List Run) (at : ℕ) (filled : Rest) : Type 0 where
  pub runs : AreRuns src ms filled.runs.items
  pub is : joined (all_tokens src ms filled.runs.items) ++ fill (all_tokens src ms taken) (drop at body) ≡ fill (all_tokens src ms taken) body
  pub counted : filled.count ≡ length (joined (all_tokens src ms filled.runs.items))
  pub few : filled.count + 2 ^ 31 * (length body - at) ≤ 2 ^ 31 * length body
  pub low : at ≤ length body

pub filling_start : (src : Sources) (ms : List (List Token)) (body : List Token) (taken : List Run) (filled : Rest) → filled.runs.items ≡ [] → filled.count ≡ 0 → Filling src ms body taken 0 filled
filling_start src ms body taken filled e c =
    let none : joined (all_tokens src ms filled.runs.items) ≡ [] = ap (λ (x : List Run). joined (all_tokens src ms x)) e in
    record {
      runs = subst (AreRuns src ms) (sym e) tt;
      is = ap (λ (x : List Token). x ++ fill (all_tokens src ms taken) body) none;
      counted = omega (arith, c, ap length none);
      few = omega (arith, c);
      low = omega arith;
    }

pub filling_more : (src : Sources) (ms : List (List Token)) (body : List Token) (taken : List Run) (at index : ℕ) (f0 f1 f2 : Rest) (digit : Token) (i : ℕ)
    → Filling src ms body taken at f0 → Some index ≡ next_parameter (drop at body) → at + index + 1 < length body → digit ≡ get_or body (at + index + 1) digit → i ≡ character_code digit.kind - 49
    → Puts src ms f0 f1 (part at (at + index) body) → Puts src ms f1 f2 (get_or (all_tokens src ms taken) i []) → length (get_or (all_tokens src ms taken) i []) < 2 ^ 31
    → Filling src ms body taken (at + (index + 2)) f2
filling_more src ms body taken at index f0 f1 f2 digit i g e low d j p q few =
    let args = all_tokens src ms taken in
    let arg = get_or args i [] in
    let rest = drop at body in
    let front : part at (at + index) body ≡ take index rest = ap (λ n. take n rest) (let y : at + index - at ≡ index = omega arith in y) in
    let d2 : digit ≡ get_or rest (suc index) digit = d ∙ get_dropped at (suc index) (at + index + 1) body digit (omega arith) in
    let step = filled_at args rest index (sym e) digit d2 in
    let n : drop (suc (suc index)) rest ≡ drop (at + (index + 2)) body = drop-drop (suc (suc index)) at body ∙ ap (λ k. drop k body) (let y : at + suc (suc index) ≡ at + (index + 2) = omega arith in y) in
    let j0 = joined (all_tokens src ms f0.runs.items) in
    let whole : j0 ++ fill args rest ≡ j0 ++ (take index rest ++ (arg ++ fill args (drop (at + (index + 2)) body))) =
    ap (λ (x : List Token). j0 ++ x) (step ∙ ap (λ (x : List Token). take index rest ++ x)
    (ap (λ k. get_or args k [] ++ fill args (drop (suc (suc index)) rest)) (sym j) ∙ ap (λ (x : List Token). arg ++ fill args x) n)) in
    let j2 : joined (all_tokens src ms f2.runs.items) ≡ (j0 ++ take index rest) ++ arg =
    q.is ∙ ap (λ (x : List Token). x ++ arg) (p.is ∙ ap (λ (x : List Token). j0 ++ x) front) in
    let counted : f2.count ≡ length (joined (all_tokens src ms f2.runs.items)) =
    omega (arith, q.counted, p.counted, g.counted, ap length front, ap length j2, length-append (j0 ++ take index rest) arg, length-append j0 (take index rest)) in
    let taken_few : length (take index rest) ≤ index = take_few index rest in
    record {
      runs = q.runs (p.runs g.runs);
      is = ap (λ (x : List Token). x ++ fill args (drop (at + (index + 2)) body)) j2
          ∙ (append_assoc (j0 ++ take index rest) arg (fill args (drop (at + (index + 2)) body))
          ∙ (append_assoc j0 (take index rest) (arg ++ fill args (drop (at + (index + 2)) body)) ∙ (sym whole ∙ g.is)));
      counted = counted;
      few = omega (arith, g.few, q.counted, p.counted, ap length front, taken_few, few, low);
      low = omega (arith, low);
    }

pub filling_end : (src : Sources) (ms : List (List Token)) (body : List Token) (taken : List Run) (at : ℕ) (f0 f1 : Rest) → Filling src ms body taken at f0 → None ≡ next_parameter (drop at body)
    → Puts src ms f0 f1 (part at (length body) body) → length body ≤ 2 ^ 32 → Fills src ms body taken f1
filling_end src ms body taken at f0 f1 g e p short =
    let args = all_tokens src ms taken in
    let plain : fill args (drop at body) ≡ drop at body = filled_none args (drop at body) (sym e) in
    let all : part at (length body) body ≡ drop at body = take_all (length body - at) (drop at body) (omega (arith, length-drop at body)) in
    let is : joined (all_tokens src ms f1.runs.items) ≡ fill args body =
    p.is ∙ (ap (λ (x : List Token). joined (all_tokens src ms f0.runs.items) ++ x) (all ∙ sym plain) ∙ g.is) in
    record {
      runs = p.runs g.runs;
      is = is;
      counted = omega (arith, p.counted, g.counted, ap length p.is, length-append (joined (all_tokens src ms f0.runs.items)) (part at (length body) body), ap length is);
      small = omega (arith, p.counted, g.few, g.low, ap length all, length-drop at body, short);
    }

-- the items of a body from an index on
pub seen_tokens : {T : Type 0} (f : T → Token) (body : List Token) (items seen : List T) (at : ℕ) → map f items ≡ body → seen ≡ part at (length items) items → map f seen ≡ drop at body
seen_tokens f body items seen at e s =
    ap (map f) s ∙ (part_mapped f at (length items) items
    ∙ (take_all (length items - at) (drop at (map f items)) (omega (arith, length-drop at (map f items), length-map items f)) ∙ ap (drop at) e))

given_short : (src : Sources) (ms : List (List Token)) (rs : List Run) (i : ℕ) → AreGiven src ms rs → AreShort rs → length (get_or (all_tokens src ms rs) i []) < 2 ^ 31
given_short src ms [] i g h = omega arith
given_short src ms (r ∷ rs) zero g h = omega (arith, h.0, g.0.count)
given_short src ms (r ∷ rs) (suc i) g h = given_short src ms rs i g.1 h.1

pub filling_step : {T : Type 0} (f : T → Token) (src : Sources) (ms : List (List Token)) (body : List Token) (items seen : List T) (taken : List Run) (at index : ℕ) (f0 f1 f2 : Rest) (item : T) (i : ℕ)
    → map f items ≡ body → seen ≡ part at (length items) items → AreGiven src ms taken → AreShort taken → Filling src ms body taken at f0 → Some index ≡ next_parameter (map f seen) → index + 1 < length seen
    → item ≡ get_or items (at + index + 1) item → i ≡ character_code (f item).kind - 49 → Puts src ms f0 f1 (part at (at + index) body) → Puts src ms f1 f2 (get_or (all_tokens src ms taken) i [])
    → Filling src ms body taken (at + (index + 2)) f2
filling_step f src ms body items seen taken at index f0 f1 f2 item i e s given short g n within d j p q =
    let all = seen_tokens f body items seen at e s in
    let low : at + index + 1 < length body = omega (arith, within, ap length all, length-map seen f, length-drop at body, g.low) in
    let digit : f item ≡ get_or body (at + index + 1) (f item) =
    mapped_get f items (at + index + 1) item (omega (arith, low, ap length e, length-map items f)) d ∙ ap (λ (x : List Token). get_or x (at + index + 1) (f item)) e in
    filling_more src ms body taken at index f0 f1 f2 (f item) i g (n ∙ ap next_parameter all) low digit j p q (given_short src ms taken i given short)

pub filled_ok : {T E : Type 0} (f : T → Token) (src : Sources) (ms : List (List Token)) (body : List Token) (items seen : List T) (taken : List Run) (at : ℕ) (f0 f1 : Rest) (r : Result (Unit {0}) E)
    → map f items ≡ body → seen ≡ part at (length items) items → Filling src ms body taken at f0 → None ≡ next_parameter (map f seen)
    → OnOk r (Puts src ms f0 f1 (part at (length items) body)) → length items ≤ 2 ^ 32 → OnOk r (Fills src ms body taken f1)
filled_ok f src ms body items seen taken at f0 f1 (Ok x) e s g n p short =
    let size : length items ≡ length body = sym (length-map items f) ∙ ap length e in
    filling_end src ms body taken at f0 f1 g (n ∙ ap next_parameter (seen_tokens f body items seen at e s)) (subst (λ (k : ℕ). Puts src ms f0 f1 (part at k body)) size p) (omega (arith, size, short))
filled_ok f src ms body items seen taken at f0 f1 (Err x) e s g n p short = tt
