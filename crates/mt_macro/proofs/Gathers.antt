-- Groups and arguments that are taken.
use Rattle.std.proofs.Common.{◌≡◌, ℕ, zero, suc, ◌+◌, ◌-◌, ◌<◌, ◌≤◌, ◌^◌, Bool, true, false, List, [], ◌∷◌, ◌++◌, length, take, drop, get_or, refl, sym, ap, subst, ◌∙◌, arith, append_assoc, length-append}
use Rattle.std.specs.Prelude.{Option, Some, None, Result, Ok, Err, IfOk, ◌==◌}
use Rattle.std.proofs.lemmas.List.{append-nil, length-drop, drop_all, take_all}
use Rattle.mt_token.specs.declared.token.Token.{Token}
use Rattle.mt_macro.specs.Braces.{group, is_open, is_close}
use Rattle.mt_macro.specs.Arguments.{argument, arguments}
use Rattle.mt_macro.specs.inner.Ends.{joined}
use Rattle.mt_macro.proofs.Ending.{Gathering, gathering_start, gathering_more, gathering_ends, gathering_none}
use Rattle.mt_macro.proofs.Taking.{Taking, taking_start, taking_more, taking_none, taking_end}
use Rattle.mt_macro.specs.declared.run.Run.{Run}
use Rattle.mt_macro.specs.declared.run.Place.TheVariants.{Argument}
use Rattle.mt_macro.specs.declared.stack.Rest.{Rest}
use Rattle.mt_macro.specs.declared.closing.Closing.TheVariants.{At, Open}
use Rattle.mt_macro.specs.inner.Lengths.{run_len}
use Rattle.mt_macro.specs.inner.Runs.{Sources, part, run_tokens, tokens_at, all_tokens, meanings, IsBalanced, AreParts, AreLeft, left_of, place_tokens, GivesRun, GivesToken, ClosesRun, PushesAll, Pushes, IsGiven, AreGiven, Extends, TakesRun, Gains, GainsAll, IsShortRun, AreShort}
use Rattle.mt_macro.proofs.Runs.{meanings_length, meanings_more, meanings_extend, run_length, tokens_more, run_more, part_at, part_length, part_stays}
use Rattle.mt_macro.proofs.Stacks.{no_items}
use Rattle.std.proofs.lemmas.Bool.{true≢false}
use Rattle.std.proofs.lemmas.Bool.Decides.{nat_tests}
use Rattle.mt_token.specs.Spaces.{is_space}
use Rattle.mt_macro.proofs.Balances.{back_of, group_balanced}

-- the parts of a group so far, behind the first ones
pub record Grouping (src : Sources) (old : List Run) (before : Rest) (first count level : ℕ) (parts : List Run) (rest : Rest) : Type 0 where
  pub extends : Extends old parts
  pub below : AreLeft src parts rest
  pub gathering : Gathering (left_of src old before) (left_of src parts rest) level (joined (drop first (meanings src parts)))
  pub counted : count ≡ length (joined (drop first (meanings src parts)))
  pub low : first ≤ length parts

pub grouping_start : (src : Sources) (old : List Run) (before : Rest) (first : ℕ) → AreLeft src old before → first ≡ length old → Grouping src old before first 0 0 old before
grouping_start src old before first l e =
    let none : joined (drop first (meanings src old)) ≡ [] = ap joined (drop_all first (meanings src old) (omega (arith, e, meanings_length src [] old))) in
    record {
      extends = ([], sym (append-nil old));
      below = l;
      gathering = gathering_start (left_of src old before) (joined (drop first (meanings src old))) none;
      counted = sym (ap length none);
      low = omega (arith, e);
    }

extends_more : (a b c : List Run) → Extends a b → Extends b c → Extends a c
extends_more a b c p q = (p.0 ++ q.0, q.1 ∙ (ap (λ (x : List Run). x ++ q.0) p.1 ∙ append_assoc a p.0 q.0))

pub grouping_more : (src : Sources) (old parts parts' : List Run) (before rest rest' : Rest) (first count count' level next : ℕ) (r : Run)
    → Grouping src old before first count level parts rest → GivesRun src parts rest rest' r → ClosesRun src (meanings src parts) level r (Open next)
    → Pushes src parts parts' r → count' ≡ count + run_len r → Grouping src old before first count' next parts' rest'
grouping_more src old parts parts' before rest rest' first count count' level next r g v c p n =
    let ms = meanings src parts in
    let s = p.stays rest' v.below in
    let i = p.is first g.low in
    record {
      extends = extends_more old parts parts' g.extends p.extends;
      below = s.0;
      gathering = gathering_more (left_of src old before) (left_of src parts rest) (left_of src parts' rest') (run_tokens src ms r) _ _ level next g.gathering
          (v.is ∙ ap (λ (x : List Token). run_tokens src ms r ++ x) (sym s.1)) c i;
      counted = omega (arith, n, g.counted, ap length i, length-append (joined (drop first ms)) (run_tokens src ms r), run_length src ms r v.known);
      low = omega (arith, g.low, ap length p.extends.1, length-append parts p.extends.0);
    }

pub grouping_none : (src : Sources) (old parts : List Run) (before rest : Rest) (first count level : ℕ) → Grouping src old before first count level parts rest
    → left_of src parts rest ≡ [] → group 0 (left_of src old before) ≡ None
grouping_none src old parts before rest first count level g e = gathering_none (left_of src old before) (left_of src parts rest) [] _ level g.gathering e

-- the argument that parts make
split_test : (n : ℕ) → (n == 1 ≡ true → n ≡ 1) × (n == 1 ≡ false → (n ≡ 1 → ⊥))
split_test n = (λ e. grind (arith, nat_tests, e), λ e f. absurd (true≢false (sym (ap (λ k. k == 1) f) ∙ e)))

pub record MadeOf (src : Sources) (ms : List (List Token)) (first : ℕ) (r : Run) : Type 0 where
  pub is : run_tokens src ms r ≡ joined (drop first ms)
  pub given : IsGiven src ms r

made_one : (src : Sources) (parts : List Run) (first : ℕ) (r : Run) → AreParts src [] parts → first + 1 ≡ length parts → r ≡ get_or parts first r → MadeOf src (meanings src parts) first r
made_one src parts first r h e f =
    let ms = meanings src parts in
    let q = part_at src [] parts first r h (omega (arith, e)) f in
    let d = q.is first (omega arith) in
    let size = meanings_length src [] parts in
    let none : d.0 ≡ [] = no_items d.0 (omega (arith, e, size, length-drop first ms, ap length d.1)) in
    record {
      is = sym (ap joined (d.1 ∙ ap (λ (x : List (List Token)). run_tokens src ms r ∷ x) none) ∙ append-nil (run_tokens src ms r));
      given = record { count = run_length src ms r q.run; stays = λ more. tokens_more src ms more r q.run; there = λ _. (q.run, q.whole) };
    }

made_stays : (src : Sources) (ms more : List (List Token)) (start end count : ℕ) → end ≤ length ms → tokens_at src (ms ++ more) (Argument count) start end ≡ tokens_at src ms (Argument count) start end
made_stays src ms more start end count h = ap joined (part_stays start end ms more h)

in_order_by : (n : ℕ) (xs : List (List Token)) (end : ℕ) → 0 < length (joined (drop n xs)) → length xs ≤ end → n < end
in_order_by n [] end h k = absurd (omega (arith, h, ap (λ (x : List (List Token)). length (joined x)) (drop_all n [] (omega arith))))
in_order_by zero (x ∷ xs) end h k = omega (arith, k)
in_order_by (suc n) (x ∷ xs) zero h k = absurd (omega (arith, k))
in_order_by (suc n) (x ∷ xs) (suc end) h k = let r = in_order_by n xs end h (omega (arith, k)) in omega (arith, r)

in_order : (n : ℕ) (xs : List (List Token)) (end : ℕ) → 0 < length (joined (drop n xs)) → length xs ≤ end → n < end
in_order n xs end h k = in_order_by n xs end h k

made_more : (src : Sources) (parts : List Run) (first count : ℕ) (r : Run) → first ≤ length parts → count ≡ length (joined (drop first (meanings src parts)))
    → IsBalanced (joined (drop first (meanings src parts))) → r ≡ record { place = Argument count; start = first; end = length parts } → MadeOf src (meanings src parts) first r
made_more src parts first count r low c b e =
    let ms = meanings src parts in
    let size = meanings_length src [] parts in
    let all : part first (length parts) ms ≡ drop first ms = take_all (length parts - first) (drop first ms) (omega (arith, size, length-drop first ms)) in
    let made : Run = record { place = Argument count; start = first; end = length parts } in
    let is : run_tokens src ms made ≡ joined (drop first ms) = ap joined all in
    let good : MadeOf src ms first made = record {
      is = is;
      given = record {
        count = c ∙ sym (ap length is);
        stays = λ more. made_stays src ms more first (length parts) count (omega (arith, size));
        there = λ h. ((in_order first ms (length parts) (omega (arith, h, c)) (omega (arith, size)), omega (arith, size), c ∙ sym (ap length is), h, subst IsBalanced (sym is) b), tt);
      };
    } in
    subst (MadeOf src ms first) (sym e) good

made_by : (src : Sources) (parts : List Run) (first count : ℕ) (r : Run) (b : Bool) → length parts - first == 1 ≡ b → AreParts src [] parts → first ≤ length parts → count ≡ length (joined (drop first (meanings src parts)))
    → IsBalanced (joined (drop first (meanings src parts))) → (first + 1 ≡ length parts → r ≡ get_or parts first r)
    → ((first + 1 ≡ length parts → ⊥) → r ≡ record { place = Argument count; start = first; end = length parts }) → MadeOf src (meanings src parts) first r
made_by src parts first count r true t h low c b one more =
    let s = (split_test (length parts - first)).0 t in
    let e : first + 1 ≡ length parts = omega (arith, s, low) in
    made_one src parts first r h e (one e)
made_by src parts first count r false t h low c b one more =
    let s = (split_test (length parts - first)).1 t in
    made_more src parts first count r low c b (more (λ e. s (omega (arith, e))))

pub made : (src : Sources) (parts : List Run) (first count : ℕ) (r : Run) → AreParts src [] parts → first ≤ length parts → count ≡ length (joined (drop first (meanings src parts)))
    → IsBalanced (joined (drop first (meanings src parts))) → (first + 1 ≡ length parts → r ≡ get_or parts first r)
    → ((first + 1 ≡ length parts → ⊥) → r ≡ record { place = Argument count; start = first; end = length parts }) → MadeOf src (meanings src parts) first r
made src parts first count r h low c b one more = made_by src parts first count r (length parts - first == 1) refl h low c b one more

-- a group that ends
pub grouping_ends : (src : Sources) (old parts parts' : List Run) (before rest rest' after : Rest) (first count level index : ℕ) (run r : Run)
    → Grouping src old before first count level parts rest → GivesRun src parts rest rest' run → ClosesRun src (meanings src parts) level run (At index)
    → PushesAll src parts parts' (take index (run_tokens src (meanings src parts) run)) → AreLeft src parts' after
    → left_of src parts' after ≡ part (run.start + index + 1) run.end (place_tokens src run.place) ++ left_of src parts' rest'
    → (first + 1 ≡ length parts' → r ≡ get_or parts' first r)
    → ((first + 1 ≡ length parts' → ⊥) → r ≡ record { place = Argument (count + index); start = first; end = length parts' })
    → Gains src old parts' before after (group 0 (left_of src old before)) r
grouping_ends src old parts parts' before rest rest' after first count level index run r g v c p l a one more =
    let ms = meanings src parts in
    let piece = run_tokens src ms run in
    let s = p.stays rest' v.below in
    let i = p.is first g.low in
    let inside : List Token = joined (drop first (meanings src parts')) in
    let back = back_of src ms run index c.0 in
    let left_after : left_of src parts' after ≡ drop (index + 1) piece ++ left_of src parts' rest' = a ∙ ap (λ (x : List Token). x ++ left_of src parts' rest') back in
    let taken : group 0 (left_of src old before) ≡ Some (record { argument = inside; after = left_of src parts' after }) =
    gathering_ends (left_of src old before) (left_of src parts rest) (left_of src parts' rest') piece _ inside (left_of src parts' after) level index g.gathering
    (v.is ∙ ap (λ (x : List Token). piece ++ x) (sym s.1)) c.1 i left_after in
    let balanced = group_balanced (left_of src old before) _ taken in
    let size : length inside ≡ count + index = omega (arith, ap length i, length-append (joined (drop first ms)) (take index piece), part_length index piece (omega (arith, c.1.0)), g.counted) in
    let low : first ≤ length parts' = omega (arith, g.low, ap length p.extends.1, length-append parts p.extends.0) in
    let m = made src parts' first (count + index) r p.parts_are low (sym size) balanced one more in
    let whole = ap length g.gathering.cut in
    let sum = length-append (joined (drop first ms)) (left_of src parts rest) in
    let rest_sum = ap length v.is in
    let piece_sum = length-append piece (left_of src parts rest') in
    let after_sum = ap length left_after in
    let after_parts = length-append (drop (index + 1) piece) (left_of src parts' rest') in
    let dropped = length-drop (index + 1) piece in
    let same = ap length s.1 in
    let fewer : length (left_of src parts' after) + length inside ≤ length (left_of src old before) =
    omega (arith, whole, sum, rest_sum, piece_sum, after_sum, after_parts, dropped, same, size, g.counted, c.1.0) in
    record {
      extends = extends_more old parts parts' g.extends p.extends;
      below = l;
      given = m.given;
      is = taken ∙ ap (λ (x : List Token). Some (record { argument = x; after = left_of src parts' after })) (sym m.is);
      falls = omega (arith, fewer);
      short = omega (arith, fewer, m.given.count, ap length m.is);
    }

-- spaces that are passed
pub record Seeking (src : Sources) (parts : List Run) (before rest : Rest) : Type 0 where
  pub below : AreLeft src parts rest
  pub is : argument (left_of src parts before) ≡ argument (left_of src parts rest)
  pub falls : length (left_of src parts rest) ≤ length (left_of src parts before)

pub seeking_start : (src : Sources) (parts : List Run) (before : Rest) → AreLeft src parts before → Seeking src parts before before
seeking_start src parts before l = record { below = l; is = refl; falls = omega arith }

at_blank : (t : Token) (rest : List Token) → is_open t ≡ false → is_close t ≡ false → is_space t ≡ true → argument (t ∷ rest) ≡ argument rest
at_blank t rest o c s = rw (o, c, s) refl

at_open : (t : Token) (rest : List Token) → is_open t ≡ true → argument (t ∷ rest) ≡ group 0 rest
at_open t rest o = rw o refl

at_close : (t : Token) (rest : List Token) → is_open t ≡ false → is_close t ≡ true → argument (t ∷ rest) ≡ None
at_close t rest o c = rw (o, c) refl

at_token : (t : Token) (rest : List Token) → is_open t ≡ false → is_close t ≡ false → is_space t ≡ false → argument (t ∷ rest) ≡ Some (record { argument = t ∷ []; after = rest })
at_token t rest o c s = rw (o, c, s) refl

pub seeking_blank : (src : Sources) (parts : List Run) (before rest rest' : Rest) (t : Token) (r : Run) → Seeking src parts before rest → GivesToken src parts rest rest' t r
    → is_open t ≡ false → is_close t ≡ false → is_space t ≡ true → Seeking src parts before rest'
seeking_blank src parts before rest rest' t r k v o c s = record {
  below = v.below;
  is = k.is ∙ (ap argument v.is ∙ at_blank t (left_of src parts rest') o c s);
  falls = omega (arith, k.falls, ap length v.is);
}

pub seeking_end : (src : Sources) (parts : List Run) (before rest : Rest) → Seeking src parts before rest → left_of src parts rest ≡ [] → argument (left_of src parts before) ≡ None
seeking_end src parts before rest k e = k.is ∙ ap argument e

pub seeking_close : (src : Sources) (parts : List Run) (before rest rest' : Rest) (t : Token) (r : Run) → Seeking src parts before rest → GivesToken src parts rest rest' t r
    → is_open t ≡ false → is_close t ≡ true → argument (left_of src parts before) ≡ None
seeking_close src parts before rest rest' t r k v o c = k.is ∙ (ap argument v.is ∙ at_close t (left_of src parts rest') o c)

pub seeking_token : (src : Sources) (parts : List Run) (before rest rest' : Rest) (t : Token) (r : Run) → Seeking src parts before rest → GivesToken src parts rest rest' t r
    → is_open t ≡ false → is_close t ≡ false → is_space t ≡ false → Gains src parts parts before rest' (argument (left_of src parts before)) r
seeking_token src parts before rest rest' t r k v o c s =
    let ms = meanings src parts in
    record {
      extends = ([], sym (append-nil parts));
      below = v.below;
      given = record { count = run_length src ms r v.known; stays = λ more. tokens_more src ms more r v.known; there = λ _. (v.known, v.whole) };
      is = k.is ∙ (ap argument v.is ∙ (at_token t (left_of src parts rest') o c s
          ∙ ap (λ (x : List Token). Some (record { argument = x; after = left_of src parts rest' })) (sym v.alone)));
      falls = omega (arith, k.falls, ap length v.is);
      short = omega (arith, k.falls, ap length v.is, run_length src ms r v.known, ap length v.alone);
    }

seeking_some : (src : Sources) (parts parts' : List Run) (before rest rest' after : Rest) (t : Token) (one r : Run) → Seeking src parts before rest → GivesToken src parts rest rest' t one
    → is_open t ≡ true → Gains src parts parts' rest' after (group 0 (left_of src parts rest')) r → Gains src parts parts' before after (argument (left_of src parts before)) r
seeking_some src parts parts' before rest rest' after t one r k v o n = record {
  extends = n.extends;
  below = n.below;
  given = n.given;
  is = k.is ∙ (ap argument v.is ∙ (at_open t (left_of src parts rest') o ∙ n.is));
  falls = omega (arith, k.falls, ap length v.is, n.falls);
  short = omega (arith, k.falls, ap length v.is, n.short);
}

pub seeking_open : (src : Sources) (parts parts' : List Run) (before rest rest' after : Rest) (t : Token) (one : Run) (o : Option Run) → Seeking src parts before rest → GivesToken src parts rest rest' t one
    → is_open t ≡ true → TakesRun src parts parts' rest' after (group 0 (left_of src parts rest')) o → TakesRun src parts parts' before after (argument (left_of src parts before)) o
seeking_open src parts parts' before rest rest' after t one None k v o n = k.is ∙ (ap argument v.is ∙ (at_open t (left_of src parts rest') o ∙ n))
seeking_open src parts parts' before rest rest' after t one (Some r) k v o n = seeking_some src parts parts' before rest rest' after t one r k v o n

pub open_ok : {E : Type 0} (src : Sources) (old parts parts' : List Run) (before rest rest' after : Rest) (t : Token) (one : Run) (r : Result (Option Run) E) → parts ≡ old → Seeking src parts before rest → GivesToken src parts rest rest' t one
    → is_open t ≡ true → IfOk r (λ (o : Option Run). TakesRun src parts parts' rest' after (group 0 (left_of src parts rest')) o) → IfOk r (λ (o : Option Run). TakesRun src old parts' before after (argument (left_of src old before)) o)
open_ok src old parts parts' before rest rest' after t one (Ok o) e k v h n =
    subst (λ (p : List Run). TakesRun src p parts' before after (argument (left_of src p before)) o) e (seeking_open src parts parts' before rest rest' after t one o k v h n)
open_ok src old parts parts' before rest rest' after t one (Err x) e k v h n = tt

-- arguments that are taken
pub record Collecting (src : Sources) (params left : ℕ) (old parts : List Run) (before rest : Rest) (rs : List Run) : Type 0 where
  pub below : AreLeft src parts rest
  pub given : AreGiven src (meanings src parts) rs
  pub short : AreShort rs
  pub taking : Taking params (left_of src old before) (left_of src parts rest) left (all_tokens src (meanings src parts) rs)

pub collecting_start : (src : Sources) (params : ℕ) (old : List Run) (before : Rest) (rs : List Run) → AreLeft src old before → rs ≡ [] → Collecting src params params old old before before rs
collecting_start src params old before rs l e =
    let none : Collecting src params params old old before before [] = record { below = l; given = tt; short = tt; taking = taking_start params (left_of src old before) } in
    subst (Collecting src params params old old before before) (sym e) none

given_more : (src : Sources) (ms more : List (List Token)) (r : Run) → IsGiven src ms r → IsGiven src (ms ++ more) r
given_more src ms more r g = record {
  count = g.count ∙ sym (ap length (g.stays more));
  stays = λ other. ap (λ (x : List (List Token)). run_tokens src x r) (append_assoc ms more other) ∙ (g.stays (more ++ other) ∙ sym (g.stays more));
  there = λ h. let t = g.there h in (run_more src ms more r t.0, t.1);
}

all_given_more : (src : Sources) (ms more : List (List Token)) (rs : List Run) → AreGiven src ms rs → AreGiven src (ms ++ more) rs
all_given_more src ms more [] g = tt
all_given_more src ms more (r ∷ rs) g = (given_more src ms more r g.0, all_given_more src ms more rs g.1)

all_tokens_more : (src : Sources) (ms more : List (List Token)) (rs : List Run) → AreGiven src ms rs → all_tokens src (ms ++ more) rs ≡ all_tokens src ms rs
all_tokens_more src ms more [] g = refl
all_tokens_more src ms more (r ∷ rs) g =
    ap (λ (x : List Token). x ∷ all_tokens src (ms ++ more) rs) (g.0.stays more) ∙ ap (λ (x : List (List Token)). run_tokens src ms r ∷ x) (all_tokens_more src ms more rs g.1)

given_push : (src : Sources) (ms : List (List Token)) (rs : List Run) (r : Run) → AreGiven src ms rs → IsGiven src ms r → AreGiven src ms (rs ++ r ∷ [])
given_push src ms [] r g h = (h, tt)
given_push src ms (x ∷ rs) r g h = (g.0, given_push src ms rs r g.1 h)

short_push : (rs : List Run) (r : Run) → AreShort rs → IsShortRun r → AreShort (rs ++ r ∷ [])
short_push [] r g h = (h, tt)
short_push (x ∷ rs) r g h = (g.0, short_push rs r g.1 h)

pub tokens_push : (src : Sources) (ms : List (List Token)) (rs : List Run) (r : Run) → all_tokens src ms (rs ++ r ∷ []) ≡ all_tokens src ms rs ++ run_tokens src ms r ∷ []
tokens_push src ms [] r = refl
tokens_push src ms (x ∷ rs) r = ap (λ (l : List (List Token)). run_tokens src ms x ∷ l) (tokens_push src ms rs r)

pub collecting_more : (src : Sources) (params left left' : ℕ) (old parts parts' : List Run) (before rest rest' : Rest) (rs rs' : List Run) (r : Run)
    → Collecting src params left old parts before rest rs → left ≡ suc left' → Gains src parts parts' rest rest' (argument (left_of src parts rest)) r
    → length (left_of src old before) < 2 ^ 31 → rs' ≡ rs ++ r ∷ [] → Collecting src params left' old parts' before rest' rs'
collecting_more src params left left' old parts parts' before rest rest' rs rs' r k e n few p =
    let ms = meanings src parts in
    let more = meanings_more src ms n.extends.0 in
    let m : meanings src parts' ≡ ms ++ more.0 = ap (meanings src) n.extends.1 ∙ (meanings_extend src [] parts n.extends.0 ∙ more.1) in
    let given : AreGiven src (meanings src parts') rs = subst (λ (x : List (List Token)). AreGiven src x rs) (sym m) (all_given_more src ms more.0 rs k.given) in
    let same : all_tokens src (meanings src parts') rs ≡ all_tokens src ms rs = ap (λ (x : List (List Token)). all_tokens src x rs) m ∙ all_tokens_more src ms more.0 rs k.given in
    let pushed : Collecting src params left' old parts' before rest' (rs ++ r ∷ []) = record {
      below = n.below;
      given = given_push src (meanings src parts') rs r given n.given;
      short = short_push rs r k.short (omega (arith, n.short, few, k.taking.falls));
      taking = taking_more params left left' (left_of src old before) (left_of src parts rest) (left_of src parts' rest') (all_tokens src ms rs) (all_tokens src (meanings src parts') (rs ++ r ∷ []))
          (run_tokens src (meanings src parts') r) k.taking e n.is n.falls
          (tokens_push src (meanings src parts') rs r ∙ ap (λ (x : List (List Token)). x ++ run_tokens src (meanings src parts') r ∷ []) same);
    } in
    subst (Collecting src params left' old parts' before rest') (sym p) pushed

pub collecting_none : (src : Sources) (params left left' : ℕ) (old parts : List Run) (before rest : Rest) (rs : List Run) → Collecting src params left old parts before rest rs
    → left ≡ suc left' → argument (left_of src parts rest) ≡ None → arguments params (left_of src old before) ≡ None
collecting_none src params left left' old parts before rest rs k e n =
    taking_none params left left' (left_of src old before) (left_of src parts rest) [] _ k.taking e n

pub collecting_end : (src : Sources) (params left : ℕ) (old parts : List Run) (before rest : Rest) (rs : List Run) → Collecting src params left old parts before rest rs → left ≡ 0
    → GainsAll src old parts before rest (arguments params (left_of src old before)) rs
collecting_end src params left old parts before rest rs k e = record {
  below = k.below;
  given = k.given;
  short = k.short;
  is = taking_end params left (left_of src old before) (left_of src parts rest) _ k.taking e;
  falls = k.taking.falls;
}
