-- How far a list is expanded.
use Rattle.std.proofs.Common.{◌≡◌, ℕ, zero, suc, ◌+◌, ◌<◌, ◌≤◌, true, false, nat_lt, List, [], ◌∷◌}
use Rattle.std.proofs.Common.{◌++◌, length, map, refl, sym, ap, subst, ◌∙◌, arith, append_assoc}
use Rattle.std.proofs.Common.{length-append}
use Rattle.std.specs.Prelude.{Option, Some, None}
use Rattle.std.proofs.lemmas.List.{append-nil}
use Rattle.std.proofs.lemmas.Bool.Decides.{nat_tests}
use Rattle.mt_token.specs.declared.token.Token.{Token}
use Rattle.mt_macro.specs.declared.table.Macro.{Macro}
use Rattle.mt_macro.specs.Table.{Table, macro_at}
use Rattle.mt_macro.specs.Limits.{max_tokens, max_steps}
use Rattle.mt_macro.specs.Arguments.{Arguments, arguments, fill}
use Rattle.mt_macro.specs.Expansion.{MacroStep, Done, Missing, Next, past, Expanded, OverBudget, NoArgument}
use Rattle.mt_macro.specs.PlacedExpansion.{Placing, placed_replacement, placed_step_at, placed_step, Stop, stop}
use Rattle.mt_macro.specs.PlacedExpansion.{stop_at_last, stop_further, stop_within, placed_run}
use Rattle.mt_macro.specs.inner.Passing.{Plain}
use Rattle.mt_macro.specs.inner.Replacing.{ExceedsBudget, FitsBudget}

past_all : List Token → MacroStep → MacroStep
past_all [] s = s
past_all (t ∷ ts) s = past t (past_all ts s)

step_past : (p : Placing) (table : Table) (out rest : List Token) → Plain table out
    → placed_step p table (out ++ rest) ≡ past_all out (placed_step p table rest)
unfolding past_all
step_past p table [] rest h = refl
step_past p table (t ∷ out) rest h =
    ap (λ o. placed_step_at p o t (out ++ rest) (placed_step p table (out ++ rest))) h.0
    ∙ ap (past t) (step_past p table out rest h.1)

past_done : (out : List Token) → past_all out Done ≡ Done
unfolding past_all
past_done [] = refl
past_done (t ∷ out) = ap (past t) (past_done out)

past_missing : (out : List Token) → past_all out (Missing 0) ≡ Missing (length out)
unfolding past_all
past_missing [] = refl
past_missing (t ∷ out) =
    ap (past t) (past_missing out) ∙ ap Missing (let e : length out + 1 ≡ suc (length out) = omega arith in e)

past_next : (out list : List Token) → past_all out (Next list) ≡ Next (out ++ list)
unfolding past_all
past_next [] list = refl
past_next (t ∷ out) list = ap (past t) (past_next out list)

pub short : (n : ℕ) → n ≤ max_tokens → nat_lt max_tokens n ≡ false
short n h = grind (arith, nat_tests)

long : (n : ℕ) → max_tokens < n → nat_lt max_tokens n ≡ true
long n h = grind (arith, nat_tests)

within_short : (done : ℕ) (list : List Token) (o : Stop) → length list ≤ max_tokens
    → stop_within done list o ≡ o
within_short done list o h = rw (short (length list) h) refl

-- the tokens that are passed, and the rest, are the list after so many steps
pub record Going (whole : Stop) (p : Placing) (table : Table) (left steps : ℕ) (out rest : List Token) : Type 0 where
  pub is : whole ≡ placed_run p table left steps (out ++ rest)
  pub plain : Plain table out
  pub small : length out + length rest ≤ max_tokens
  pub count : left + steps ≡ max_steps

pub going_start : (p : Placing) (table : Table) (left : ℕ) (list : List Token) → left ≡ max_steps → length list ≤ max_tokens
    → Going (placed_run p table left 0 list) p table left 0 [] list
going_start p table left list e h = record { is = refl; plain = tt; small = omega (arith, h); count = omega (arith, e) }

plain_all : (table : Table) (ts us : List Token) → Plain table ts → Plain table us → Plain table (ts ++ us)
plain_all table [] us h k = k
plain_all table (t ∷ ts) us h k = (h.0, plain_all table ts us h.1 k)

pub going_plain : (whole : Stop) (p : Placing) (table : Table) (left steps : ℕ) (out out' rest rest' passed : List Token)
    → Going whole p table left steps out rest → rest ≡ passed ++ rest' → Plain table passed → out' ≡ out ++ passed
    → Going whole p table left steps out' rest'
going_plain whole p table left steps out out' rest rest' passed g e f o = record {
  is = g.is ∙ ap (placed_run p table left steps) (ap (λ r. out ++ r) e
      ∙ (sym (append_assoc out passed rest') ∙ ap (λ x. x ++ rest') (sym o)));
  plain = subst (Plain table) (sym o) (plain_all table out passed g.plain f);
  small = omega (arith, g.small, ap length e, ap length o, length-append out passed, length-append passed rest');
  count = g.count;
}

pub run_done : (p : Placing) (table : Table) (left steps : ℕ) (list : List Token) → length list ≤ max_tokens
    → placed_step p table list ≡ Done → placed_run p table left steps list ≡ stop (Expanded list) list
unfolding placed_run
run_done p table zero steps list h e = within_short steps list _ h ∙ ap (stop_at_last steps list) e
run_done p table (suc left) steps list h e =
    within_short steps list _ h ∙ ap (stop_further list (placed_run p table left (steps + 1))) e

pub going_end : (whole : Stop) (p : Placing) (table : Table) (left steps : ℕ) (out rest : List Token)
    → Going whole p table left steps out rest → rest ≡ [] → whole ≡ stop (Expanded out) out
going_end whole p table left steps out rest g e =
    let f : out ++ rest ≡ out = ap (λ r. out ++ r) e ∙ append-nil out in
    g.is ∙ (ap (placed_run p table left steps) f
    ∙ run_done p table left steps out (omega (arith, g.small)) (ap (placed_step p table) (sym (append-nil out))
    ∙ (step_past p table out [] g.plain ∙ past_done out)))

-- a step at the leftmost macro
step_found : (p : Placing) (table : Table) (out rest rest' : List Token) (t : Token) (m : Macro) → Plain table out
    → rest ≡ t ∷ rest' → macro_at table t ≡ Some m
    → placed_step p table (out ++ rest) ≡ past_all out (placed_replacement p t m (arguments m.params rest'))
step_found p table out rest rest' t m h e f =
    step_past p table out rest h
    ∙ ap (past_all out) (ap (placed_step p table) e ∙ ap (λ o. placed_step_at p o t rest' (placed_step p table rest')) f)

after_last : (p : Placing) (table : Table) (steps : ℕ) (out list : List Token) (t : Token) (m : Macro) (o : Option Arguments)
    → placed_step p table list ≡ past_all out (placed_replacement p t m o)
    → stop_at_last steps list (placed_step p table list) ≡ stop (OverBudget steps (length list)) list
after_last p table steps out list t m None e = ap (stop_at_last steps list) (e ∙ past_missing out)
after_last p table steps out list t m (Some taken) e = ap (stop_at_last steps list) (e ∙ past_next out _)

run_last : (p : Placing) (table : Table) (steps : ℕ) (out list : List Token) (t : Token) (m : Macro) (o : Option Arguments)
    → length list ≤ max_tokens → placed_step p table list ≡ past_all out (placed_replacement p t m o)
    → placed_run p table zero steps list ≡ stop (OverBudget steps (length list)) list
unfolding placed_run
run_last p table steps out list t m o h e = within_short steps list _ h ∙ after_last p table steps out list t m o e

pub going_last : (whole : Stop) (p : Placing) (table : Table) (left steps n : ℕ) (out rest rest' : List Token) (t : Token)
    (m : Macro) → Going whole p table left steps out rest → rest ≡ t ∷ rest' → macro_at table t ≡ Some m → left ≡ 0
    → n ≡ length out + length rest' + 1 → whole.outcome ≡ OverBudget steps n
going_last whole p table left steps n out rest rest' t m g e f l k =
    let size : length (out ++ rest) ≡ n = omega (arith, length-append out rest, ap length e, k) in
    ap (λ (s : Stop). s.outcome) (g.is ∙ (ap (λ x. placed_run p table x steps (out ++ rest)) l
    ∙ run_last p table steps out (out ++ rest) t m (arguments m.params rest')
    (omega (arith, length-append out rest, g.small)) (step_found p table out rest rest' t m g.plain e f)))
    ∙ ap (OverBudget steps) size

run_missing : (p : Placing) (table : Table) (left steps : ℕ) (out list : List Token) → length list ≤ max_tokens
    → placed_step p table list ≡ past_all out (Missing 0) → placed_run p table (suc left) steps list ≡ stop (NoArgument (length out)) list
unfolding placed_run
run_missing p table left steps out list h e =
    within_short steps list _ h ∙ ap (stop_further list (placed_run p table left (steps + 1))) (e ∙ past_missing out)

pub going_missing : (whole : Stop) (p : Placing) (table : Table) (left steps : ℕ) (out rest rest' : List Token) (t : Token)
    (m : Macro) → Going whole p table left steps out rest → rest ≡ t ∷ rest' → macro_at table t ≡ Some m → 0 < left
    → placed_replacement p t m (arguments m.params rest') ≡ Missing 0 → whole ≡ stop (NoArgument (length out)) (out ++ rest)
going_missing whole p table zero steps out rest rest' t m g e f l a = absurd (omega (arith, l))
going_missing whole p table (suc left) steps out rest rest' t m g e f l a =
    g.is ∙ run_missing p table left steps out (out ++ rest) (omega (arith, length-append out rest, g.small))
    (step_found p table out rest rest' t m g.plain e f ∙ ap (past_all out) a)

run_next : (p : Placing) (table : Table) (left steps : ℕ) (out list next : List Token) → length list ≤ max_tokens
    → placed_step p table list ≡ past_all out (Next next)
    → placed_run p table (suc left) steps list ≡ placed_run p table left (steps + 1) (out ++ next)
unfolding placed_run
run_next p table left steps out list next h e =
    within_short steps list _ h ∙ ap (stop_further list (placed_run p table left (steps + 1))) (e ∙ past_next out next)

going_next : (whole : Stop) (p : Placing) (table : Table) (left left' steps : ℕ) (out rest rest' next : List Token) (t : Token)
    (m : Macro) → Going whole p table left steps out rest → rest ≡ t ∷ rest' → macro_at table t ≡ Some m
    → left ≡ suc left' → placed_replacement p t m (arguments m.params rest') ≡ Next next
    → whole ≡ placed_run p table left' (steps + 1) (out ++ next)
going_next whole p table left left' steps out rest rest' next t m g e f l a =
    g.is ∙ (ap (λ x. placed_run p table x steps (out ++ rest)) l
    ∙ run_next p table left' steps out (out ++ rest) next (omega (arith, length-append out rest, g.small))
    (step_found p table out rest rest' t m g.plain e f ∙ ap (past_all out) a))

run_long : (p : Placing) (table : Table) (left steps : ℕ) (list : List Token) → max_tokens < length list
    → placed_run p table left steps list ≡ stop (OverBudget steps (length list)) list
unfolding placed_run
run_long p table zero steps list h = rw (long (length list) h) refl
run_long p table (suc left) steps list h = rw (long (length list) h) refl

pub going_over : (whole : Stop) (p : Placing) (table : Table) (left left' steps n passed : ℕ) (out rest rest' : List Token)
    (t : Token) (m : Macro) → Going whole p table left steps out rest → rest ≡ t ∷ rest' → macro_at table t ≡ Some m
    → left ≡ suc left' → passed ≡ length out → ExceedsBudget passed n (placed_replacement p t m (arguments m.params rest'))
    → whole.outcome ≡ OverBudget (steps + 1) n
going_over whole p table left left' steps n passed out rest rest' t m g e f l q o =
    let size : length (out ++ o.list) ≡ n = omega (arith, length-append out o.list, o.count, q) in
    ap (λ (s : Stop). s.outcome) (going_next whole p table left left' steps out rest rest' o.list t m g e f l o.is
    ∙ run_long p table left' (steps + 1) (out ++ o.list) (omega (arith, size, o.over)))
    ∙ ap (OverBudget (steps + 1)) size

pub going_on : (whole : Stop) (p : Placing) (table : Table) (left left' steps passed : ℕ) (out rest rest' after : List Token)
    (t : Token) (m : Macro) → Going whole p table left steps out rest → rest ≡ t ∷ rest' → macro_at table t ≡ Some m
    → left ≡ suc left' → passed ≡ length out → FitsBudget passed (placed_replacement p t m (arguments m.params rest')) after
    → Going whole p table left' (steps + 1) out after
going_on whole p table left left' steps passed out rest rest' after t m g e f l q o = record {
  is = going_next whole p table left left' steps out rest rest' after t m g e f l o.is;
  plain = g.plain;
  small = omega (arith, o.few, q);
  count = omega (arith, g.count, l);
}

-- what a replacement makes
filled_next : (p : Placing) (t : Token) (m : Macro) (rest after text body : List Token) (given args : List (List Token))
    → arguments m.params rest ≡ Some (record { arguments = args; after = after }) → text ≡ map (p t) m.body → given ≡ args
    → body ≡ fill given text → placed_replacement p t m (arguments m.params rest) ≡ Next (body ++ after)
filled_next p t m rest after text body given args a x y b =
    ap (placed_replacement p t m) a
    ∙ ap (λ v. Next (v ++ after)) (sym (b ∙ (ap (fill given) x ∙ ap (λ v. fill v (map (p t) m.body)) y)))

pub fits_budget : (p : Placing) (t : Token) (passed n : ℕ) (m : Macro) (rest after next text body : List Token) (given args : List (List Token))
    → arguments m.params rest ≡ Some (record { arguments = args; after = after }) → text ≡ map (p t) m.body → given ≡ args
    → body ≡ fill given text → next ≡ body ++ after → n ≡ passed + length after + length (fill given text)
    → n ≤ max_tokens → FitsBudget passed (placed_replacement p t m (arguments m.params rest)) next
fits_budget p t passed n m rest after next text body given args a x y b e k h = record {
  is = filled_next p t m rest after text body given args a x y b ∙ ap Next (sym e);
  few = omega (arith, h, k, ap length e, ap length b, length-append body after);
}

pub exceeds_budget : (p : Placing) (t : Token) (passed n : ℕ) (m : Macro) (rest after text : List Token) (given args : List (List Token))
    → arguments m.params rest ≡ Some (record { arguments = args; after = after }) → text ≡ map (p t) m.body → given ≡ args
    → n ≡ passed + length after + length (fill given text) → max_tokens < n
    → ExceedsBudget passed n (placed_replacement p t m (arguments m.params rest))
exceeds_budget p t passed n m rest after text given args a x y k h = record {
  list = fill given text ++ after;
  is = filled_next p t m rest after text (fill given text) given args a x y refl;
  count = omega (arith, k, length-append (fill given text) after);
  over = h;
}
