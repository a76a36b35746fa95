-- Steps over runs.
use Rattle.std.proofs.Common.{◌≡◌, ℕ, suc, ◌+◌, ◌-◌, ◌<◌, ◌≤◌, Bool, true, false, List, [], ◌∷◌, ◌++◌, length, map, take, refl, sym, ap, subst, ◌∙◌, arith}
use Rattle.std.specs.Prelude.{Option, Some, None}
use Rattle.mt_token.specs.declared.token.Token.{Token}
use Rattle.mt_macro.specs.declared.table.Macro.{Macro}
use Rattle.mt_macro.specs.declared.bodies.Found.{Found}
use Rattle.mt_macro.specs.declared.run.Run.{Run}
use Rattle.mt_macro.specs.declared.stack.Rest.{Rest}
use Rattle.mt_macro.specs.declared.expander.Replacement.{Replacement}
use Rattle.mt_macro.specs.declared.expander.Replacement.TheVariants.{NoArgument, TooLong, Done}
use Rattle.mt_macro.specs.Limits.{max_tokens, max_steps}
use Rattle.mt_macro.specs.Table.{Table, macro_at}
use Rattle.mt_macro.specs.Arguments.{Arguments, arguments}
use Rattle.mt_macro.specs.Expansion.{Expanded, OverBudget, NoArgument as MissesArgument}
use Rattle.mt_macro.specs.PlacedExpansion.{Placing, placed_replacement, placed_run, Stop, stop}
use Rattle.mt_macro.specs.inner.Ends.{joined}
use Rattle.mt_macro.specs.Naming.{IsMacro}
use Rattle.mt_macro.specs.inner.Runs.{Sources, all_tokens, meanings, left_of, AreLeft, GainsAll, TakesRuns}
use Rattle.mt_macro.specs.inner.Passing.{PassesPlain, PassesTo}
use Rattle.mt_macro.specs.inner.Fillings.{Fills}
use Rattle.mt_macro.specs.inner.Replacing.{Replaces, ReplacesBy}
use Rattle.mt_macro.proofs.Running.{Going, going_start, going_plain, going_end, going_last, going_missing, going_on, going_over, fits_budget, exceeds_budget}

-- what became of a macro
pub replaced_none : (passed params : ℕ) (body before : List Token) (src : Sources) (parts : List Run) (rest : Rest) → arguments params before ≡ None
    → Replaces passed NoArgument params body before src parts rest
replaced_none passed params body before src parts rest e = record {
  is = λ pl call m p b. ap (placed_replacement pl call m) (ap (λ n. arguments n before) p ∙ e);
  below = tt;
}

pub gains_all : (src : Sources) (parts parts' : List Run) (rest rest' : Rest) (expected : Option Arguments) (rs : List Run) (b : Bool) → TakesRuns src parts parts' rest rest' expected rs b → b ≡ true
    → GainsAll src parts parts' rest rest' expected rs
gains_all src parts parts' rest rest' expected rs true t e = t
gains_all src parts parts' rest rest' expected rs false t e = absurd (let f : false ≡ true = e in cc)

pub replaced_long : (passed n params : ℕ) (body : List Token) (src : Sources) (parts parts' parts2 : List Run) (rest rest' rest2 filled : Rest) (taken : List Run)
    → GainsAll src parts parts' rest rest' (arguments params (left_of src parts rest)) taken → Fills src (meanings src parts') body taken filled
    → n ≡ passed + rest'.count + filled.count → max_tokens < n → Replaces passed (TooLong n) params body (left_of src parts rest) src parts2 rest2
replaced_long passed n params body src parts parts' parts2 rest rest' rest2 filled taken g f k h = record {
  is = λ pl call m p b. exceeds_budget pl call passed n m (left_of src parts rest) (left_of src parts' rest') body (all_tokens src (meanings src parts') taken) _
      (ap (λ n. arguments n (left_of src parts rest)) p ∙ g.is) (sym b) refl (omega (arith, k, g.below.counted, f.counted)) h;
  below = tt;
}

pub replaced_done : (passed n params : ℕ) (body : List Token) (src : Sources) (parts parts' parts2 : List Run) (rest rest' middle rest2 filled : Rest) (taken : List Run)
    → GainsAll src parts parts' rest rest' (arguments params (left_of src parts rest)) taken → Fills src (meanings src parts') body taken filled
    → n ≡ passed + rest'.count + filled.count → n ≤ max_tokens → AreLeft src parts2 rest2
    → left_of src parts' middle ≡ joined (all_tokens src (meanings src parts') filled.runs.items) ++ left_of src parts' rest'
    → left_of src parts2 rest2 ≡ left_of src parts' middle → Replaces passed Done params body (left_of src parts rest) src parts2 rest2
replaced_done passed n params body src parts parts' parts2 rest rest' middle rest2 filled taken g f k h l e same = record {
  is = λ pl call m p b. fits_budget pl call passed n m (left_of src parts rest) (left_of src parts' rest') (left_of src parts2 rest2) body
      (joined (all_tokens src (meanings src parts') filled.runs.items)) (all_tokens src (meanings src parts') taken) _
      (ap (λ n. arguments n (left_of src parts rest)) p ∙ g.is) (sym b) refl f.is (same ∙ e) (omega (arith, k, g.below.counted, f.counted)) h;
  below = l;
}

-- the tokens that are passed, and those that are left
pub record Stepping (whole : Stop) (p : Placing) (table : Table) (src : Sources) (steps : ℕ) (out : List Token) (parts : List Run) (rest : Rest) : Type 0 where
  pub going : Going whole p table (max_steps - steps) steps out (left_of src parts rest)
  pub below : AreLeft src parts rest

pub stepping_start : (p : Placing) (table : Table) (src : Sources) (list out : List Token) (parts : List Run) (rest : Rest) → AreLeft src parts rest → left_of src parts rest ≡ list → length list ≤ max_tokens → out ≡ []
    → Stepping (placed_run p table max_steps 0 list) p table src 0 out parts rest
stepping_start p table src list out parts rest l e h o = record {
  going = subst (λ (x : List Token). Going (placed_run p table max_steps 0 list) p table (max_steps - 0) 0 x (left_of src parts rest)) (sym o)
      (subst (λ (x : List Token). Going (placed_run p table max_steps 0 list) p table (max_steps - 0) 0 [] x) (sym e) (going_start p table max_steps list refl h));
  below = l;
}

-- all tokens are passed
pub stepping_end : (whole : Stop) (p : Placing) (table : Table) (src : Sources) (steps : ℕ) (out out' : List Token) (parts : List Run) (rest : Rest) → Stepping whole p table src steps out parts rest
    → PassesPlain table (left_of src parts rest) [] out out' → whole.outcome ≡ Expanded out'
stepping_end whole p table src steps out out' parts rest g q =
    ap (λ (s : Stop). s.outcome) (going_end whole p table _ steps out' [] (going_plain whole p table _ steps out out' _ [] q.passed g.going q.left q.plain q.is) refl)

-- a macro is next, and these tokens are left after it; this is its body where its token calls it
pub record AtMacro (whole : Stop) (p : Placing) (table : Table) (src : Sources) (steps : ℕ) (out : List Token) (parts : List Run) (rest : Rest) (params : ℕ) (body : List Token) (first : Token) : Type 0 where
  pub own_body : List Token
  pub going : Going whole p table (max_steps - steps) steps out (first ∷ left_of src parts rest)
  pub below : AreLeft src parts rest
  pub is : IsMacro (macro_at table first) params own_body
  pub called : body ≡ map (p first) own_body

pub at_macro : (whole : Stop) (p : Placing) (table : Table) (own : ℕ → List Token) (src : Sources) (steps : ℕ) (out out' : List Token) (parts : List Run) (rest rest' : Rest) (found : Found) (call : ℕ) (first : Token)
    → Stepping whole p table src steps out parts rest → PassesTo table p own src parts rest rest' out out' found call first
    → AtMacro whole p table src steps out' parts rest' found.params (src.body (record { number = found.body; call = call })) first
at_macro whole p table own src steps out out' parts rest rest' found call first g q = record {
  own_body = own found.body;
  going = going_plain whole p table _ steps out out' _ _ q.passes.passed g.going q.passes.left q.passes.plain q.passes.is;
  below = q.below;
  is = q.is;
  called = q.called found.body;
}

pub record TheMacro (o : Option Macro) (params : ℕ) (body : List Token) : Type 0 where
  pub found : Macro
  pub is : o ≡ Some found
  pub params_are : found.params ≡ params
  pub body_is : found.body ≡ body

the_macro : (o : Option Macro) (params : ℕ) (body : List Token) → IsMacro o params body → TheMacro o params body
the_macro None params body h = absurd h
the_macro (Some m) params body h = record { found = m; is = refl; params_are = h.0; body_is = h.1 }

-- what became of the macro
by_macro : (whole : Stop) (p : Placing) (table : Table) (src : Sources) (steps passed params : ℕ) (body out : List Token) (parts parts2 : List Run) (rest rest2 : Rest) (first : Token) (r : Replacement)
    → (a : AtMacro whole p table src steps out parts rest params body first) → (m : TheMacro (macro_at table first) params a.own_body)
    → Replaces passed r params body (left_of src parts rest) src parts2 rest2
    → ReplacesBy passed r (placed_replacement p first m.found (arguments m.found.params (left_of src parts rest))) (left_of src parts2 rest2)
by_macro whole p table src steps passed params body out parts parts2 rest rest2 first r a m d =
    d.is p first m.found m.params_are (ap (map (p first)) m.body_is ∙ sym a.called)

pub stepping_last : (whole : Stop) (p : Placing) (table : Table) (src : Sources) (steps n params : ℕ) (body out : List Token) (parts : List Run) (rest : Rest) (first : Token)
    → AtMacro whole p table src steps out parts rest params body first → steps ≡ max_steps → n ≡ length out + rest.count + 1 → whole.outcome ≡ OverBudget steps n
stepping_last whole p table src steps n params body out parts rest first a e k =
    let m = the_macro (macro_at table first) params a.own_body a.is in
    going_last whole p table _ steps n out _ (left_of src parts rest) first m.found a.going refl m.is (omega (arith, e)) (omega (arith, k, a.below.counted))

-- so many tokens are passed where the macro is
pub stepping_short : (whole : Stop) (p : Placing) (table : Table) (src : Sources) (steps passed params : ℕ) (body out : List Token) (parts : List Run) (rest : Rest) (first : Token)
    → AtMacro whole p table src steps out parts rest params body first → passed ≡ length out → passed + length (left_of src parts rest) ≤ max_tokens
stepping_short whole p table src steps passed params body out parts rest first a q = omega (arith, a.going.small, q)

take_first : (out rest : List Token) (t : Token) → take (length out + 1) (out ++ t ∷ rest) ≡ out ++ t ∷ []
take_first [] rest t = refl
take_first (u ∷ out) rest t =
    ap (λ n. take n (u ∷ out ++ t ∷ rest)) (let e : length (u ∷ out) + 1 ≡ suc (length out + 1) = omega arith in e)
    ∙ ap (λ (ys : List Token). u ∷ ys) (take_first out rest t)

-- an argument is missing: the tokens that are passed and the macro are those up to the index
pub stepping_missing : (whole : Stop) (p : Placing) (table : Table) (src : Sources) (steps passed params n : ℕ) (body out out' : List Token) (parts parts2 : List Run) (rest rest2 : Rest) (first : Token)
    → AtMacro whole p table src steps out parts rest params body first → (steps ≡ max_steps → ⊥)
    → Replaces passed NoArgument params body (left_of src parts rest) src parts2 rest2 → n ≡ length out → out' ≡ out ++ first ∷ []
    → (whole.outcome ≡ MissesArgument n) × (out' ≡ take (n + 1) whole.list)
stepping_missing whole p table src steps passed params n body out out' parts parts2 rest rest2 first a e d k o =
    let m = the_macro (macro_at table first) params a.own_body a.is in
    let stops : whole ≡ stop (MissesArgument (length out)) (out ++ first ∷ left_of src parts rest) =
    going_missing whole p table _ steps out _ (left_of src parts rest) first m.found a.going refl m.is (omega (arith, a.going.count, e))
    (by_macro whole p table src steps passed params body out parts parts2 rest rest2 first NoArgument a m d) in (
      ap (λ (s : Stop). s.outcome) stops ∙ ap MissesArgument (sym k),
      o ∙ (sym (take_first out (left_of src parts rest) first)
          ∙ (ap (λ i. take (i + 1) (out ++ first ∷ left_of src parts rest)) (sym k) ∙ ap (λ (s : Stop). take (n + 1) s.list) (sym stops))),
    )

pub stepping_over : (whole : Stop) (p : Placing) (table : Table) (src : Sources) (steps n passed params : ℕ) (body out : List Token) (parts parts2 : List Run) (rest rest2 : Rest) (first : Token)
    → AtMacro whole p table src steps out parts rest params body first → (steps ≡ max_steps → ⊥) → passed ≡ length out
    → Replaces passed (TooLong n) params body (left_of src parts rest) src parts2 rest2 → whole.outcome ≡ OverBudget (steps + 1) n
stepping_over whole p table src steps n passed params body out parts parts2 rest rest2 first a e q d =
    let m = the_macro (macro_at table first) params a.own_body a.is in
    going_over whole p table _ (max_steps - (steps + 1)) steps n passed out _ (left_of src parts rest) first m.found a.going refl m.is (omega (arith, a.going.count, e)) q
    (by_macro whole p table src steps passed params body out parts parts2 rest rest2 first (TooLong n) a m d)

pub stepping_on : (whole : Stop) (p : Placing) (table : Table) (src : Sources) (steps passed params : ℕ) (body out : List Token) (parts parts2 : List Run) (rest rest2 : Rest) (first : Token)
    → AtMacro whole p table src steps out parts rest params body first → (steps ≡ max_steps → ⊥) → passed ≡ length out
    → Replaces passed Done params body (left_of src parts rest) src parts2 rest2 → Stepping whole p table src (steps + 1) out parts2 rest2
stepping_on whole p table src steps passed params body out parts parts2 rest rest2 first a e q d =
    let m = the_macro (macro_at table first) params a.own_body a.is in
    record {
      going = going_on whole p table _ (max_steps - (steps + 1)) steps passed out _ (left_of src parts rest) _ first m.found a.going refl m.is (omega (arith, a.going.count, e)) q
          (by_macro whole p table src steps passed params body out parts parts2 rest rest2 first Done a m d);
      below = d.below;
    }
