-- Items that name no macro.
use Rattle.std.proofs.Common.{◌≡◌, ℕ, zero, suc, ◌+◌, ◌-◌, ◌<◌, ◌≤◌, List, [], ◌∷◌, ◌++◌, length, take, drop, map, get_or, refl, sym, ap, subst, ◌∙◌, arith, append_assoc, length-append}
use Rattle.std.specs.Prelude.{Some, None}
use Rattle.std.proofs.lemmas.List.{append-nil, length-map}
use Rattle.mt_token.specs.declared.token.Token.{Token}
use Rattle.mt_macro.specs.declared.bodies.Found.{Found}
use Rattle.mt_macro.specs.declared.passing.PlainFront.{PlainFront}
use Rattle.mt_macro.specs.declared.run.Run.{Run}
use Rattle.mt_macro.specs.declared.stack.Rest.{Rest}
use Rattle.mt_macro.specs.Table.{Table, macro_at}
use Rattle.mt_macro.specs.Naming.{IsMacro}
use Rattle.mt_macro.specs.inner.Passing.{Plain, StopsAt, PushesPlain, PassesPlain, PassesTo}
use Rattle.mt_macro.specs.inner.Lengths.{IsBasic}
use Rattle.mt_macro.specs.PlacedExpansion.{Placing}
use Rattle.mt_macro.specs.inner.Runs.{Sources, sources, read_at, call_at, part, run_tokens, meanings, left_of, place_tokens, AreLeft, GivesRun}
use Rattle.mt_macro.proofs.SameKinds.{Nests, called_by}
use Rattle.mt_macro.proofs.Stacks.{basic_tokens, basic_bounds, part_split, part_size, mapped_get}
use Rattle.mt_macro.proofs.Mapped.{mapped_front}
use Rattle.mt_macro.proofs.Balances.{part_mapped}

-- so many tokens are pushed, and these are left
pub record Pushing (table : Table) (tokens : List Token) (count : ℕ) (rest out out' : List Token) : Type 0 where
  pub pushed : List Token
  pub plain : Plain table pushed
  pub is : out' ≡ out ++ pushed
  pub cut : tokens ≡ pushed ++ rest
  pub size : count ≡ length pushed

pub pushing_start : (table : Table) (tokens out : List Token) → Pushing table tokens 0 tokens out out
pushing_start table tokens out = record { pushed = []; plain = tt; is = sym (append-nil out); cut = refl; size = refl }

plain_one : (table : Table) (ts : List Token) (t : Token) → Plain table ts → macro_at table t ≡ None → Plain table (ts ++ t ∷ [])
plain_one table [] t h e = (e, tt)
plain_one table (u ∷ ts) t h e = (h.0, plain_one table ts t h.1 e)

pub pushing_more : {T : Type 0} (f : T → Token) (table : Table) (tokens : List Token) (count : ℕ) (rest : List T) (x : T) (out out' out2 : List Token)
    → Pushing table tokens count (map f rest) out out' → 1 ≤ length rest → x ≡ get_or rest 0 x → macro_at table (f x) ≡ None → out2 ≡ out' ++ f x ∷ []
    → Pushing table tokens (count + 1) (map f (take (length rest - 1) (drop 1 rest))) out out2
pushing_more f table tokens count rest x out out' out2 g h k n o = record {
  pushed = g.pushed ++ f x ∷ [];
  plain = plain_one table g.pushed (f x) g.plain n;
  is = o ∙ (ap (λ (ys : List Token). ys ++ f x ∷ []) g.is ∙ append_assoc out g.pushed (f x ∷ []));
  cut = g.cut ∙ (ap (λ (ys : List Token). g.pushed ++ ys) (mapped_front f rest x h k) ∙ sym (append_assoc g.pushed (f x ∷ []) _));
  size = omega (arith, g.size, length-append g.pushed (f x ∷ []));
}

-- a macro is in front of those that are left
pub pushing_stop : {T : Type 0} (f : T → Token) (table : Table) (body : ℕ → List Token) (tokens : List Token) (count : ℕ) (rest : List T) (x : T) (out out' : List Token) (found : Found)
    → Pushing table tokens count (map f rest) out out' → 1 ≤ length rest → x ≡ get_or rest 0 x → IsMacro (macro_at table (f x)) found.params (body found.body)
    → PushesPlain table body tokens (record { count = count; stop = Some found }) out out'
pushing_stop f table body tokens count rest x out out' found g h k i = record {
  pushed = g.pushed;
  behind = f x ∷ map f (take (length rest - 1) (drop 1 rest));
  plain = g.plain;
  is = g.is;
  cut = g.cut ∙ ap (λ (ys : List Token). g.pushed ++ ys) (mapped_front f rest x h k);
  size = g.size;
  stops = i;
}

-- none is left
pub pushing_end : (table : Table) (body : ℕ → List Token) (tokens : List Token) (count : ℕ) (rest out out' : List Token) → Pushing table tokens count rest out out' → rest ≡ []
    → PushesPlain table body tokens (record { count = count; stop = None }) out out'
pushing_end table body tokens count rest out out' g e = record {
  pushed = g.pushed;
  behind = rest;
  plain = g.plain;
  is = g.is;
  cut = g.cut;
  size = g.size;
  stops = e;
}

plain_both : (table : Table) (ts us : List Token) → Plain table ts → Plain table us → Plain table (ts ++ us)
plain_both table [] us h k = k
plain_both table (t ∷ ts) us h k = (h.0, plain_both table ts us h.1 k)

pub passes_none : (table : Table) (before out : List Token) → PassesPlain table before before out out
passes_none table before out = record { passed = []; plain = tt; left = refl; is = sym (append-nil out) }

-- more tokens are passed
pub passes_more : (table : Table) (before middle after out out' out2 pushed : List Token) → PassesPlain table before middle out out' → Plain table pushed
    → middle ≡ pushed ++ after → out2 ≡ out' ++ pushed → PassesPlain table before after out out2
passes_more table before middle after out out' out2 pushed p h e o = record {
  passed = p.passed ++ pushed;
  plain = plain_both table p.passed pushed p.plain h;
  left = p.left ∙ (ap (λ (x : List Token). p.passed ++ x) e ∙ sym (append_assoc p.passed pushed after));
  is = o ∙ (ap (λ (x : List Token). x ++ pushed) p.is ∙ append_assoc out p.passed pushed);
}

-- the items of a run, and what is left after it
pub run_items : {T : Type 0} (f : T → Token) (src : Sources) (parts : List Run) (before middle : Rest) (r : Run) (items all : List T)
    → GivesRun src parts before middle r → IsBasic r.place → map f all ≡ place_tokens src r.place → items ≡ part r.start r.end all
    → (map f items ≡ part r.start r.end (place_tokens src r.place)) × (left_of src parts before ≡ map f items ++ left_of src parts middle)
run_items f src parts before middle r items all v b m i =
    let tokens : map f items ≡ part r.start r.end (place_tokens src r.place) = ap (map f) i ∙ (part_mapped f r.start r.end all ∙ ap (part r.start r.end) m) in
    (tokens, v.is ∙ ap (λ (x : List Token). x ++ left_of src parts middle) (basic_tokens src (meanings src parts) r b ∙ sym tokens))

-- no macro is in a run
pub passes_run : {T : Type 0} (f : T → Token) (table : Table) (body : ℕ → List Token) (src : Sources) (parts : List Run) (start before middle : Rest) (r : Run) (items all : List T) (front : PlainFront) (out out' out2 : List Token)
    → PassesPlain table (left_of src parts start) (left_of src parts before) out out' → GivesRun src parts before middle r → IsBasic r.place
    → map f all ≡ place_tokens src r.place → items ≡ part r.start r.end all → PushesPlain table body (map f items) front out' out2 → front.stop ≡ None
    → PassesPlain table (left_of src parts start) (left_of src parts middle) out out2
passes_run f table body src parts start before middle r items all front out out' out2 g v b m i p n =
    let run = run_items f src parts before middle r items all v b m i in
    let none : p.behind ≡ [] = subst (StopsAt table body p.behind) n p.stops in
    let cut : map f items ≡ p.pushed = p.cut ∙ (ap (λ (x : List Token). p.pushed ++ x) none ∙ append-nil p.pushed) in
    passes_more table _ _ _ out out' out2 p.pushed g p.plain (run.1 ∙ ap (λ (x : List Token). x ++ left_of src parts middle) cut) p.is

drop_front : (xs ys : List Token) (n : ℕ) → n ≡ length xs → drop n (xs ++ ys) ≡ ys
drop_front [] ys zero h = refl
drop_front [] ys (suc n) h = absurd (omega (arith, h))
drop_front (x ∷ xs) ys zero h = absurd (omega (arith, h))
drop_front (x ∷ xs) ys (suc n) h = drop_front xs ys n (omega (arith, h))

-- a macro that begins tokens, and those after it
pub record Begins (table : Table) (params : ℕ) (body behind : List Token) : Type 0 where
  pub first : Token
  pub after : List Token
  pub cut : behind ≡ first ∷ after
  pub is : IsMacro (macro_at table first) params body

begins : (table : Table) (body : ℕ → List Token) (behind : List Token) (found : Found) → StopsAt table body behind (Some found) → Begins table found.params (body found.body) behind
begins table body [] found h = absurd h
begins table body (t ∷ ts) found h = record { first = t; after = ts; cut = refl; is = h }

get_after : (xs ys : List Token) (t d : Token) (n : ℕ) → n ≡ length xs → get_or (xs ++ t ∷ ys) n d ≡ t
get_after [] ys t d zero h = refl
get_after [] ys t d (suc n) h = absurd (omega (arith, h))
get_after (x ∷ xs) ys t d zero h = absurd (omega (arith, h))
get_after (x ∷ xs) ys t d (suc n) h = get_after xs ys t d n (omega (arith, h))

-- the macro is one of the items
pub stop_inside : {T : Type 0} (f : T → Token) (table : Table) (body : ℕ → List Token) (items : List T) (front : PlainFront) (found : Found) (out out' : List Token)
    → PushesPlain table body (map f items) front out out' → front.stop ≡ Some found → front.count < length items
stop_inside f table body items front found out out' p n =
    let at = begins table body p.behind found (subst (StopsAt table body p.behind) n p.stops) in
    omega (arith, p.size, ap length p.cut, length-append p.pushed p.behind, ap length at.cut, length-map items f)

get_dropped : (at i n : ℕ) (xs : List Token) (t : Token) → n ≡ at + i → get_or xs n t ≡ get_or (drop at xs) i t
get_dropped zero i n xs t e = ap (λ k. get_or xs k t) (let y : n ≡ i = omega (arith, e) in y)
get_dropped (suc at) i n [] t e = refl
get_dropped (suc at) i zero (x ∷ xs) t e = absurd (omega (arith, e))
get_dropped (suc at) i (suc n) (x ∷ xs) t e = get_dropped at i n xs t (omega (arith, e))

get_taken : (n i : ℕ) (xs : List Token) (t : Token) → i < n → get_or xs i t ≡ get_or (take n xs) i t
get_taken zero i xs t h = absurd (omega (arith, h))
get_taken (suc n) i [] t h = refl
get_taken (suc n) zero (x ∷ xs) t h = refl
get_taken (suc n) (suc i) (x ∷ xs) t h = get_taken n i xs t (omega (arith, h))

-- a macro in a run is taken
pub takes_macro : {T : Type 0} (token : T → Token) (table : Table) (placed : Placing) (body : ℕ → List Token) (list : List T) (parts : List Run) (start before middle rest : Rest) (r : Run) (items all : List T) (front : PlainFront) (found : Found) (item : T) (from call : ℕ) (out out' out2 : List Token)
    → Nests placed
    → PassesPlain table (left_of (sources token placed body list) parts start) (left_of (sources token placed body list) parts before) out out' → GivesRun (sources token placed body list) parts before middle r → IsBasic r.place
    → map (read_at token placed list r.place) all ≡ place_tokens (sources token placed body list) r.place → items ≡ part r.start r.end all
    → PushesPlain table body (map (read_at token placed list r.place) items) front out' out2 → front.stop ≡ Some found
    → item ≡ get_or items front.count item → call ≡ call_at r.place (r.start + front.count)
    → from ≡ r.start + front.count + 1 → left_of (sources token placed body list) parts rest ≡ part from r.end (place_tokens (sources token placed body list) r.place) ++ left_of (sources token placed body list) parts middle
    → AreLeft (sources token placed body list) parts rest
    → PassesTo table placed body (sources token placed body list) parts start rest out out2 found call (read_at token placed list r.place item)
takes_macro token table placed body list parts start before middle rest r items all front found item from call out out' out2 nests g v b m i p n it ca z e l =
    let f = read_at token placed list r.place in
    let src = sources token placed body list in
    let place = place_tokens src r.place in
    let bounds = basic_bounds src (meanings src parts) r b v.known in
    let run = run_items f src parts before middle r items all v b m i in
    let at = begins table body p.behind found (subst (StopsAt table body p.behind) n p.stops) in
    let cut : map f items ≡ p.pushed ++ (at.first ∷ at.after) = p.cut ∙ ap (λ (x : List Token). p.pushed ++ x) at.cut in
    let size : length (map f items) ≡ r.end - r.start = ap length run.0 ∙ part_size r.start r.end place (omega (arith, bounds.0)) bounds.1 in
    let within : from ≤ r.end = omega (arith, z, p.size, size, ap length cut, length-append p.pushed (at.first ∷ at.after), bounds.0) in
    let split : map f items ≡ part r.start from place ++ part from r.end place = run.0 ∙ part_split r.start from r.end place (omega (arith, z)) within bounds.1 in
    let short : front.count + 1 ≡ length (part r.start from place) = omega (arith, z, part_size r.start from place (omega (arith, z)) (omega (arith, within, bounds.1))) in
    let more : part from r.end place ≡ at.after =
    sym (drop_front (part r.start from place) (part from r.end place) (front.count + 1) short)
    ∙ (ap (drop (front.count + 1)) (sym split ∙ (cut ∙ sym (append_assoc p.pushed (at.first ∷ []) at.after)))
    ∙ drop_front (p.pushed ++ at.first ∷ []) at.after (front.count + 1) (omega (arith, p.size, length-append p.pushed (at.first ∷ [])))) in
    let left : left_of src parts rest ≡ at.after ++ left_of src parts middle = e ∙ ap (λ (x : List Token). x ++ left_of src parts middle) more in
    let inside = stop_inside f table body items front found out' out2 p n in
    let read : f item ≡ get_or (map f items) front.count (f item) = mapped_get f items front.count item inside it in
    let first : f item ≡ at.first = read ∙ (ap (λ (x : List Token). get_or x front.count (f item)) cut ∙ get_after p.pushed at.after at.first (f item) front.count p.size) in
    let there : f item ≡ get_or place (r.start + front.count) (f item) =
    read ∙ (ap (λ (x : List Token). get_or x front.count (f item)) run.0
    ∙ (sym (get_taken (r.end - r.start) front.count (drop r.start place) (f item) (omega (arith, within, z)))
    ∙ sym (get_dropped r.start front.count (r.start + front.count) place (f item) refl))) in
    let calls = called_by token placed body list (meanings src parts) r.place r.start r.end (r.start + front.count) item nests b v.known (omega (arith, within, z)) there in
    record {
      passes = passes_more table _ _ _ out out' out2 p.pushed g p.plain
          (run.1 ∙ (ap (λ (x : List Token). x ++ left_of src parts middle) cut ∙ (append_assoc p.pushed (at.first ∷ at.after) (left_of src parts middle)
          ∙ (ap (λ (x : List Token). p.pushed ++ (at.first ∷ x)) (sym left) ∙ ap (λ (t : Token). p.pushed ++ (t ∷ left_of src parts rest)) (sym first))))) p.is;
      is = subst (λ (t : Token). IsMacro (macro_at table t) found.params (body found.body)) (sym first) at.is;
      below = l;
      within = subst (λ (c : ℕ). c < length (map token list)) (sym ca) calls.within;
      called = λ k. subst (λ (c : ℕ). src.body (record { number = k; call = c }) ≡ map (placed (f item)) (body k)) (sym ca) (calls.called k);
    }

-- a run has tokens
pub run_falls : (src : Sources) (parts : List Run) (before middle : Rest) (r : Run) → GivesRun src parts before middle r → IsBasic r.place
    → length (left_of src parts middle) < length (left_of src parts before)
run_falls src parts before middle r v b =
    let place = place_tokens src r.place in
    let bounds = basic_bounds src (meanings src parts) r b v.known in
    omega (arith, bounds.0, ap length v.is, length-append (run_tokens src (meanings src parts) r) (left_of src parts middle), ap length (basic_tokens src (meanings src parts) r b), part_size r.start r.end place (omega (arith, bounds.0)) bounds.1)

-- tokens that are left are no more than those before
pub passes_fewer : (table : Table) (before after out out' : List Token) → PassesPlain table before after out out' → length after ≤ length before
passes_fewer table before after out out' p = omega (arith, ap length p.left, length-append p.passed after)
