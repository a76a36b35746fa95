-- Expansion in which tokens of bodies stay as they are.
use Rattle.std.proofs.Common.{◌≡◌, ℕ, zero, suc, ◌+◌, nat_lt, Bool, true, false, List, [], ◌∷◌, ◌++◌, length, map, refl, sym, ap, subst, ◌∙◌}
use Rattle.std.specs.Prelude.{Option, Some, None, if◌then◌else◌, Result, Ok, Err}
use Rattle.mt_token.specs.declared.token.Token.{Token}
use Rattle.mt_macro.specs.declared.table.Macro.{Macro}
use Rattle.mt_macro.specs.declared.expansion.ExpandError.{ExpandError}
use Rattle.mt_macro.specs.declared.expansion.ExpandError.TheVariants.{Budget, MissingArgument, Unbalanced, TooLong, OutOfMemory}
use Rattle.mt_macro.specs.Limits.{max_tokens, max_steps}
use Rattle.mt_macro.specs.Braces.{first_unmatched}
use Rattle.mt_macro.specs.Table.{Table, macro_at}
use Rattle.mt_macro.specs.Arguments.{Arguments, arguments, fill}
use Rattle.mt_macro.specs.Expansion.{MacroStep, Done, Missing, Next, past, replacement, macro_step_at, macro_step, Expansion, Expanded, IsErrorOf}
use Rattle.mt_macro.specs.Expansion.{at_last, further, run, unless_unmatched, expansion, ExpandsTo}
use Rattle.mt_macro.specs.PlacedExpansion.{Placing, placed_replacement, placed_step_at, placed_step, Stop, stop_at_last}
use Rattle.mt_macro.proofs.Mapped.{mapped_own}
use Rattle.mt_macro.specs.PlacedExpansion.{stop_further, placed_run, stop_unless_unmatched, placed_expansion, StopsAs}

-- a token of a body is put as it is
abbrev pub StaysItself : Placing → Type 0
StaysItself placed = (call t : Token) → placed call t ≡ t

module _ (p : Placing) (h : StaysItself p) (table : Table) where
  body_same : (call : Token) (xs : List Token) → map (p call) xs ≡ xs
  body_same call [] = refl
  body_same call (x ∷ xs) = ap (λ (y : Token). y ∷ map (p call) xs) (h call x) ∙ ap (λ (ys : List Token). x ∷ ys) (body_same call xs)

  replacement_same : (call : Token) (m : Macro) (o : Option Arguments) → placed_replacement p call m o ≡ replacement m o
  replacement_same call m None = refl
  replacement_same call m (Some taken) = ap (λ (b : List Token). Next (fill taken.arguments b ++ taken.after)) (body_same call m.body)

  step_at_same : (o : Option Macro) (t : Token) (rest : List Token) (s s' : MacroStep) → s ≡ s' → placed_step_at p o t rest s ≡ macro_step_at o t rest s'
  step_at_same None t rest s s' e = ap (past t) e
  step_at_same (Some m) t rest s s' e = replacement_same t m (arguments m.params rest)

  step_same : (list : List Token) → placed_step p table list ≡ macro_step table list
  step_same [] = refl
  step_same (t ∷ rest) = step_at_same (macro_at table t) t rest (placed_step p table rest) (macro_step table rest) (step_same rest)

  last_same : (done : ℕ) (list : List Token) (s : MacroStep) → (stop_at_last done list s).outcome ≡ at_last done list s
  last_same done list Done = refl
  last_same done list (Missing index) = refl
  last_same done list (Next next) = refl

  further_same : (list : List Token) (again : List Token → Stop) (again' : List Token → Expansion) → ((l : List Token) → (again l).outcome ≡ again' l) → (s : MacroStep)
      → (stop_further list again s).outcome ≡ further list again' s
  further_same list again again' e Done = refl
  further_same list again again' e (Missing index) = refl
  further_same list again again' e (Next next) = e next

  either_same : (b : Bool) (x y : Stop) (u v : Expansion) → x.outcome ≡ u → y.outcome ≡ v → (if b then x else y).outcome ≡ (if b then u else v)
  either_same true x y u v e f = e
  either_same false x y u v e f = f

  run_same : (left done : ℕ) (list : List Token) → (placed_run p table left done list).outcome ≡ run table left done list
  unfolding placed_run run
  run_same zero done list =
      either_same (nat_lt max_tokens (length list)) _ _ _ _ refl
      (ap (λ (s : MacroStep). (stop_at_last done list s).outcome) (step_same list) ∙ last_same done list (macro_step table list))
  run_same (suc left) done list =
      either_same (nat_lt max_tokens (length list)) _ _ _ _ refl
      (ap (λ (s : MacroStep). (stop_further list (placed_run p table left (done + 1)) s).outcome) (step_same list)
      ∙ further_same list (placed_run p table left (done + 1)) (run table left (done + 1)) (λ l. run_same left (done + 1) l) (macro_step table list))

  unless_same : (o : Option ℕ) (list : List Token) (s : Stop) (u : Expansion) → s.outcome ≡ u → (stop_unless_unmatched o list s).outcome ≡ unless_unmatched o u
  unless_same None list s u e = e
  unless_same (Some index) list s u e = refl

  -- the outcome is that of the expansion without places
  pub unplaced : (list : List Token) → (placed_expansion p table list).outcome ≡ expansion table list
  unplaced list =
      either_same (nat_lt max_tokens (length list)) _ _ _ _ refl
      (unless_same (first_unmatched 0 list) list (placed_run p table max_steps 0 list) (run table max_steps 0 list) (run_same max_steps 0 list))

  pub expands_to : (r : Result (Unit {0}) ExpandError) (out list : List Token) → StopsAs r out (placed_expansion p table list) → ExpandsTo r out (expansion table list)
  expands_to (Ok done) out list s = sym (unplaced list) ∙ s
  expands_to (Err (Budget steps n)) out list s = sym (unplaced list) ∙ s
  expands_to (Err (MissingArgument index)) out list s = sym (unplaced list) ∙ s.0
  expands_to (Err (Unbalanced index)) out list s = sym (unplaced list) ∙ s
  expands_to (Err TooLong) out list s = sym (unplaced list) ∙ s
  expands_to (Err OutOfMemory) out list s = tt

-- the same of tokens that are read as themselves
pub err_expands : (table : Table) (list out : List Token) (e : ExpandError) → StopsAs (Err e) (map (λ t. t) out) (placed_expansion (λ call t. t) table (map (λ t. t) list)) → IsErrorOf e (expansion table list)
err_expands table list out e s =
    subst (λ (xs : List Token). IsErrorOf e (expansion table xs)) (mapped_own list)
    (expands_to (λ call t. t) (λ call t. refl) table (Err e) (map (λ t. t) out) (map (λ t. t) list) s)

pub ok_expands : (table : Table) (list out : List Token) → StopsAs (Ok tt) (map (λ t. t) out) (placed_expansion (λ call t. t) table (map (λ t. t) list)) → expansion table list ≡ Expanded out
ok_expands table list out s =
    ap (expansion table) (sym (mapped_own list))
    ∙ (expands_to (λ call t. t) (λ call t. refl) table (Ok tt) (map (λ t. t) out) (map (λ t. t) list) s ∙ ap Expanded (mapped_own out))
