-- Lists that expand to themselves.
use Rattle.std.proofs.Common.{◌≡◌, ℕ, zero, suc, ◌+◌, ◌≤◌, Bool, true, false, nat_lt, List, [], ◌∷◌, length}
use Rattle.std.proofs.Common.{refl, sym, ap, ◌∙◌, arith, cond}
use Rattle.std.specs.Prelude.{◌<◌, ◌↔◌, IsTrue, Option, Some, None, is_some, not, ◌||◌}
use Rattle.std.proofs.lemmas.Bool.{true≢false}
use Rattle.std.specs.List.{list_any}
use Rattle.std.proofs.lemmas.Bool.Decides.{nat_tests}
use Rattle.mt_token.specs.declared.token.Token.{Token}
use Rattle.mt_macro.specs.declared.table.Macro.{Macro}
use Rattle.mt_macro.specs.Limits.{max_tokens, max_steps}
use Rattle.mt_macro.specs.Braces.{first_unmatched}
use Rattle.mt_macro.specs.Table.{Table, macro_at}
use Rattle.mt_macro.specs.Naming.{names_macro}
use Rattle.mt_macro.specs.Arguments.{Arguments, arguments}
use Rattle.mt_macro.specs.Expansion.{MacroStep, Done, Missing, Next, past, replacement, macro_step, macro_step_at}
use Rattle.mt_macro.specs.Expansion.{Expansion, Expanded, OverBudget, ListTooLong}
use Rattle.mt_macro.specs.Expansion.{at_last, further, within_budget, run, unless_unmatched, expansion}
use Rattle.mt_macro.proofs.Running.{short}

abbrev pub is_done : MacroStep → Bool
is_done Done = true
is_done (Missing index) = false
is_done (Next list) = false

is_done_past : (t : Token) (s : MacroStep) → is_done (past t s) ≡ is_done s
is_done_past t Done = refl
is_done_past t (Missing index) = refl
is_done_past t (Next list) = refl

not_done : (m : Macro) (o : Option Arguments) → is_done (replacement m o) ≡ false
not_done m None = refl
not_done m (Some taken) = refl

done_at : (o : Option Macro) (t : Token) (rest : List Token) (s : MacroStep) (b : Bool) → is_done s ≡ not b
    → is_done (macro_step_at o t rest s) ≡ not (is_some o || b)
done_at None t rest s b e = is_done_past t s ∙ e
done_at (Some m) t rest s b e = not_done m (arguments m.params rest)

-- no macro is left where no token names one
pub step_done : (table : Table) (list : List Token)
    → is_done (macro_step table list) ≡ not (list_any (names_macro table) list)
step_done table [] = refl
step_done table (t ∷ rest) = done_at (macro_at table t) t rest (macro_step table rest) _ (step_done table rest)

is_the_done : (s : MacroStep) → is_done s ≡ true → s ≡ Done
is_the_done Done e = refl
is_the_done (Missing index) e = cc
is_the_done (Next list) e = cc

same_list : (a b : List Token) → Expanded a ≡ Expanded b → a ≡ b
same_list a b e = cc

last_done : (table : Table) (done : ℕ) (list out : List Token) (s : MacroStep) → macro_step table list ≡ s
    → at_last done list s ≡ Expanded out → is_done (macro_step table out) ≡ true
last_done table done list out Done is e =
    ap (λ (l : List Token). is_done (macro_step table l)) (sym (same_list list out e)) ∙ ap is_done is
last_done table done list out (Missing index) is e = cc
last_done table done list out (Next next) is e = cc

further_done : (table : Table) (again : List Token → Expansion) (list out : List Token) (s : MacroStep)
    → ((next : List Token) → again next ≡ Expanded out → is_done (macro_step table out) ≡ true)
    → macro_step table list ≡ s → further list again s ≡ Expanded out → is_done (macro_step table out) ≡ true
further_done table again list out Done later is e =
    ap (λ (l : List Token). is_done (macro_step table l)) (sym (same_list list out e)) ∙ ap is_done is
further_done table again list out (Missing index) later is e = cc
further_done table again list out (Next next) later is e = later next e

in_budget : (done : ℕ) (list out : List Token) (answer : Expansion) (b : Bool) → nat_lt max_tokens (length list) ≡ b
    → within_budget done list answer ≡ Expanded out → answer ≡ Expanded out
in_budget done list out answer true is e =
    let over : OverBudget done (length list) ≡ Expanded out =
    sym (ap (λ (b : Bool). cond b (OverBudget done (length list)) answer) is) ∙ e in
    cc
in_budget done list out answer false is e =
    sym (ap (λ (b : Bool). cond b (OverBudget done (length list)) answer) is) ∙ e

-- no macro is left in a list that the steps leave
run_ends : (table : Table) (left done : ℕ) (list out : List Token) → run table left done list ≡ Expanded out
    → is_done (macro_step table out) ≡ true
unfolding run
run_ends table zero done list out e =
    last_done table done list out (macro_step table list) refl (in_budget done list out _ _ refl e)
run_ends table (suc left) done list out e =
    further_done table (run table left (done + 1)) list out (macro_step table list)
    (λ next h. run_ends table left (done + 1) next out h) refl (in_budget done list out _ _ refl e)

unless_long : (list : List Token) (answer : Expansion) (b : Bool) → nat_lt max_tokens (length list) ≡ b
    → cond b ListTooLong answer ≡ Expanded list → (length list ≤ max_tokens) × (answer ≡ Expanded list)
unless_long list answer true is e = cc
unless_long list answer false is e =
    (let few : length list ≤ max_tokens = grind (arith, nat_tests) in few, e)

partnered : (o : Option ℕ) (answer : Expansion) (list : List Token) → unless_unmatched o answer ≡ Expanded list
    → (o ≡ None) × (answer ≡ Expanded list)
partnered None answer list e = (refl, e)
partnered (Some index) answer list e = cc

pub record IsItself (table : Table) (list : List Token) : Type 0 where
  pub few : length list ≤ max_tokens
  pub partners : first_unmatched 0 list ≡ None
  pub plain : list_any (names_macro table) list ≡ false

not_true : (b : Bool) → not b ≡ true → b ≡ false
not_true true e = cc
not_true false e = refl

-- a list that expands to itself
pub itself : (table : Table) (list : List Token) → expansion table list ≡ Expanded list → IsItself table list
itself table list e =
    let short = unless_long list _ _ refl e in
    let found = partnered (first_unmatched 0 list) _ list short.1 in
    record {
      few = short.0;
      partners = found.0;
      plain = not_true _ (sym (step_done table list) ∙ run_ends table max_steps 0 list list found.1);
    }

within_short : (done : ℕ) (list : List Token) (o : Expansion) → length list ≤ max_tokens → within_budget done list o ≡ o
within_short done list o h = rw (short (length list) h) refl

run_done : (table : Table) (left steps : ℕ) (list : List Token) → length list ≤ max_tokens → macro_step table list ≡ Done → run table left steps list ≡ Expanded list
unfolding run
run_done table zero steps list h e = within_short steps list _ h ∙ ap (at_last steps list) e
run_done table (suc left) steps list h e = within_short steps list _ h ∙ ap (further list (run table left (steps + 1))) e

-- such a list expands to itself
pub to_itself : (table : Table) (list : List Token) → IsItself table list → expansion table list ≡ Expanded list
to_itself table list h =
    ap (λ (b : Bool). cond b ListTooLong (unless_unmatched (first_unmatched 0 list) (run table max_steps 0 list)))
    (short (length list) h.few)
    ∙ (ap (λ (o : Option ℕ). unless_unmatched o (run table max_steps 0 list)) h.partners
    ∙ run_done table max_steps 0 list h.few (is_the_done _ (step_done table list ∙ ap not h.plain)))

-- the answers of the test
pub too_long : (table : Table) (list : List Token) → max_tokens < length list
    → IsTrue false ↔ (expansion table list ≡ Expanded list)
too_long table list h =
    (λ f. absurd (true≢false (sym f)), λ e. let i = itself table list e in absurd (omega (arith, h, i.few)))

pub by_macros : (table : Table) (list : List Token) (b : Bool) → length list ≤ max_tokens → first_unmatched 0 list ≡ None
    → b ≡ list_any (names_macro table) list → IsTrue (not b) ↔ (expansion table list ≡ Expanded list)
by_macros table list true few partners h =
    (λ f. absurd (true≢false (sym f)), λ g. let i = itself table list g in absurd (true≢false (h ∙ i.plain)))
by_macros table list false few partners h =
    (λ t. to_itself table list (record { few = few; partners = partners; plain = sym h }), λ g. refl)
