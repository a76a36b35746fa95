-- A list without macros has at most as many tokens as a step may leave.
use Rattle.std.proofs.Common.{◌≡◌, ℕ, zero, suc, ◌+◌, ◌≤◌, Bool, true, false, List, length, refl, arith, ap}
use Rattle.std.specs.Prelude.{Option, Some, None, Result, Ok, Err, OnOk, map, nat_lt, if◌then◌else◌}
use Rattle.std.proofs.lemmas.List.{length-map}
use Rattle.mt_token.specs.declared.token.Token.{Token}
use Rattle.mt_macro.specs.Limits.{max_tokens, max_steps}
use Rattle.mt_macro.specs.Braces.{first_unmatched}
use Rattle.mt_macro.specs.Table.{Table}
use Rattle.mt_macro.specs.Expansion.{MacroStep, Done, Missing, Next, macro_step, Expansion, Expanded, OverBudget, ListTooLong, at_last, further, run, unless_unmatched, expansion, ExpandsTo}
use Rattle.mt_macro.specs.declared.expansion.ExpandError.{ExpandError}

-- what a list leaves is short, if it is
module _ (done : ℕ) (list out : List Token) where
  within : (b : Bool) (answer : Expansion) → nat_lt max_tokens (length list) ≡ b → (length list ≤ max_tokens → answer ≡ Expanded out → length out ≤ max_tokens) → (if b then OverBudget done (length list) else answer) ≡ Expanded out → length out ≤ max_tokens
  within true answer over short e = absurd (cc)
  within false answer over short e = short (grind arith) e

  last_short : (step : MacroStep) → length list ≤ max_tokens → at_last done list step ≡ Expanded out → length out ≤ max_tokens
  last_short Done few e = let h : list ≡ out = cc in omega (arith, ap length h)
  last_short (Missing index) few e = absurd (cc)
  last_short (Next next) few e = absurd (cc)

  further_short : (again : List Token → Expansion) (step : MacroStep) → ((next : List Token) → again next ≡ Expanded out → length out ≤ max_tokens) → length list ≤ max_tokens → further list again step ≡ Expanded out → length out ≤ max_tokens
  further_short again Done short few e = let h : list ≡ out = cc in omega (arith, ap length h)
  further_short again (Missing index) short few e = absurd (cc)
  further_short again (Next next) short few e = short next e

run_short : (table : Table) (left done : ℕ) (list out : List Token) → run table left done list ≡ Expanded out → length out ≤ max_tokens
unfolding run
run_short table zero done list out e = within done list out (nat_lt max_tokens (length list)) (at_last done list (macro_step table list)) refl (last_short done list out (macro_step table list)) e
run_short table (suc left) done list out e =
    within done list out (nat_lt max_tokens (length list)) (further list (run table left (done + 1)) (macro_step table list)) refl
    (further_short done list out (run table left (done + 1)) (macro_step table list) (λ next. run_short table left (done + 1) next out)) e

matched_short : (index : Option ℕ) (answer : Expansion) (out : List Token) → (answer ≡ Expanded out → length out ≤ max_tokens) → unless_unmatched index answer ≡ Expanded out → length out ≤ max_tokens
matched_short None answer out short e = short e
matched_short (Some index) answer out short e = absurd (cc)

given_short : (b : Bool) (answer : Expansion) (out : List Token) → (answer ≡ Expanded out → length out ≤ max_tokens) → (if b then ListTooLong else answer) ≡ Expanded out → length out ≤ max_tokens
given_short true answer out short e = absurd (cc)
given_short false answer out short e = short e

pub expanded_short : (table : Table) (list out : List Token) → expansion table list ≡ Expanded out → length out ≤ max_tokens
expanded_short table list out e =
    given_short (nat_lt max_tokens (length list)) (unless_unmatched (first_unmatched 0 list) (run table max_steps 0 list)) out
    (matched_short (first_unmatched 0 list) (run table max_steps 0 list) out (run_short table 20000 0 list out)) e

-- the same where the list is that of items
pub put_short : {T : Type 0} (token : T → Token) (items : List T) (table : Table) (list : List Token) (result : Result (Unit {0}) ExpandError) → ExpandsTo result (map token items) (expansion table list) → OnOk result (length items ≤ max_tokens)
put_short token items table list (Ok done) e = omega (arith, length-map items token, expanded_short table list (map token items) e)
put_short token items table list (Err cause) e = tt
