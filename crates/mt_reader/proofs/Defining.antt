-- Definitions of macros, a parameter at a time.
use Rattle.std.proofs.Common.{◌≡◌, ℕ, suc, ◌+◌, ◌<◌, ◌≤◌, Bool, true, false, List, [], ◌∷◌, length, refl, sym, ap, ◌∙◌, arith}
use Rattle.std.specs.Prelude.{Option, Some, None, ◌==◌, ◌&&◌, not, if◌then◌else◌}
use Rattle.mt_token.specs.declared.token.Token.{Token}
use Rattle.mt_token.specs.Character.{character_code}
use Rattle.mt_macro.specs.Braces.{index_after_first}
use Rattle.mt_macro.specs.Parameters.{first_bad_parameter, is_hash, begins_with_parameter}
use Rattle.mt_reader.specs.Definitions.{is_parameter, parameters}

-- so many parameters are passed
pub record Parameters (first rest : List Token) (count : ℕ) : Type 0 where
  pub is : parameters 0 first ≡ parameters count rest
  pub falls : length rest ≤ length first
  pub few : count ≤ 9

parameters_on : (count : ℕ) (t u : Token) (rest : List Token) → is_parameter count t ≡ true → character_code u.kind == 49 + count ≡ true → parameters count (t ∷ u ∷ rest) ≡ parameters (count + 1) rest
parameters_on count t u rest e f = rw (e, f, parameters) refl

few_more : (count : ℕ) (t : Token) → is_parameter count t ≡ true → count + 1 ≤ 9
few_more count t e = grind arith

pub parameters_more : (count : ℕ) (first rest after more : List Token) (t u : Token) → Parameters first rest count → rest ≡ t ∷ after → after ≡ u ∷ more → is_parameter count t ≡ true → character_code u.kind == 49 + count ≡ true → Parameters first more (count + 1)
parameters_more count first rest after more t u g e f hash digit = record {
  is = g.is ∙ (ap (parameters count) (e ∙ ap (λ l. t ∷ l) f) ∙ parameters_on count t u more hash digit);
  falls = omega (arith, g.falls, ap length e, ap length f);
  few = few_more count t hash;
}

here_or_later : (b : Bool) (later : Option ℕ) (n p : ℕ) → ((q : ℕ) → later ≡ Some q → q < n) → (if b then Some 0 else index_after_first later) ≡ Some p → p < suc n
here_or_later true later n p below e = let h : 0 ≡ p = cc in omega (arith, h)
here_or_later false None n p below e = absurd (cc)
here_or_later false (Some q) n p below e = let h : q + 1 ≡ p = cc in let l : q < n = below q refl in omega (arith, h, l)

-- a bad parameter is in the body
bad_within : (params : ℕ) (body : List Token) (p : ℕ) → first_bad_parameter params body ≡ Some p → p < length body
bad_within params [] p e = absurd (cc)
bad_within params (t ∷ rest) p e =
    here_or_later (is_hash t && not (begins_with_parameter params rest)) (first_bad_parameter params rest) (length rest) p (bad_within params rest) e

pub bad_before : (params left : ℕ) (body : List Token) (p : ℕ) → length body ≤ left → Some p ≡ first_bad_parameter params body → p ≤ left
bad_before params left body p few e = let h : p < length body = bad_within params body p (sym e) in omega (arith, h, few)
