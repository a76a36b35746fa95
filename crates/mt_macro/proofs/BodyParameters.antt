-- The parameters of a body.
use Rattle.std.proofs.Common.{◌≡◌, ℕ, suc, ◌-◌, Bool, true, false, List, [], ◌∷◌, ◌++◌}
use Rattle.std.proofs.Common.{take, drop, get_or, refl, sym, ap, subst, ◌∙◌, arith, cond}
use Rattle.std.specs.Prelude.{Option, Some, None, ◌&&◌}
use Rattle.std.proofs.lemmas.Bool.{true≢false}
use Rattle.mt_token.specs.declared.token.Token.{Token}
use Rattle.mt_token.specs.Character.{character_code}
use Rattle.mt_macro.specs.Parameters.{is_hash}
use Rattle.mt_macro.specs.Braces.{index_after_first}
use Rattle.mt_macro.specs.Arguments.{fill}
use Rattle.mt_macro.specs.inner.Bodies.{begins_parameter, next_parameter}
use Rattle.mt_macro.proofs.Ending.{one_index, first_of}

pub parameter_here : (t : Token) (rest : List Token) → begins_parameter t rest ≡ true
    → next_parameter (t ∷ rest) ≡ Some 0
parameter_here t rest h = rw h refl

pub parameter_later : (t : Token) (rest : List Token) → begins_parameter t rest ≡ false
    → next_parameter (t ∷ rest) ≡ index_after_first (next_parameter rest)
parameter_later t rest h = rw h refl

and_no : (b : Bool) → b && false ≡ false
and_no true = refl
and_no false = refl

and_yes : (b : Bool) → b && true ≡ b
and_yes true = refl
and_yes false = refl

none_after : (o : Option ℕ) → index_after_first o ≡ None → o ≡ None
none_after None e = refl
none_after (Some k) e = absurd (cc)

module _ (arguments : List (List Token)) where
  -- the argument of a parameter, by its digit
  abbrev pub argument_of : Token → List Token
  argument_of digit = get_or arguments (character_code digit.kind - 49) []

  -- a body is what is before a #, the argument of its parameter, and what follows that
  abbrev pub FilledAt : ℕ → List Token → Type 0
  FilledAt n body = (digit : Token) → digit ≡ get_or body (suc n) digit
      → fill arguments body ≡ take n body ++ (argument_of digit ++ fill arguments (drop (suc (suc n)) body))

  filled_here : (t : Token) (rest : List Token) → begins_parameter t rest ≡ true → FilledAt 0 (t ∷ rest)
  filled_here t [] h = absurd (true≢false (sym h ∙ and_no (is_hash t)))
  filled_here t (u ∷ rest) h = λ digit d.
      ap (λ b. cond b (argument_of u ++ fill arguments rest) (t ∷ fill arguments (u ∷ rest)))
      (sym (and_yes (is_hash t)) ∙ h)
      ∙ ap (λ (x : Token). argument_of x ++ fill arguments rest) (sym d)

  filled_later : (t : Token) (rest : List Token) → begins_parameter t rest ≡ false
      → fill arguments (t ∷ rest) ≡ t ∷ fill arguments rest
  filled_later t [] h = refl
  filled_later t (u ∷ rest) h =
      ap (λ b. cond b (argument_of u ++ fill arguments rest) (t ∷ fill arguments (u ∷ rest)))
      (sym (and_yes (is_hash t)) ∙ h)

  by_first : (t : Token) (rest : List Token) (b : Bool) → begins_parameter t rest ≡ b → (n : ℕ)
      → next_parameter (t ∷ rest) ≡ Some n → ((k : ℕ) → next_parameter rest ≡ Some k → FilledAt k rest)
      → FilledAt n (t ∷ rest)
  by_first t rest true h n e again =
      subst (λ k. FilledAt k (t ∷ rest)) (one_index 0 n (sym (parameter_here t rest h) ∙ e)) (filled_here t rest h)
  by_first t rest false h n e again =
      let f = first_of (next_parameter rest) n (sym (parameter_later t rest h) ∙ e) in
      let z : suc f.0 ≡ n = omega (arith, f.2) in
      let next : FilledAt (suc f.0) (t ∷ rest) =
      λ digit d. filled_later t rest h ∙ ap (λ (ts : List Token). t ∷ ts) (again f.0 f.1 digit d) in
      subst (λ k. FilledAt k (t ∷ rest)) z next

  pub filled_at : (body : List Token) (n : ℕ) → next_parameter body ≡ Some n → FilledAt n body
  filled_at [] n e = absurd (cc)
  filled_at (t ∷ rest) n e = by_first t rest _ refl n e (λ k h. filled_at rest k h)

  none_by : (t : Token) (rest : List Token) (b : Bool) → begins_parameter t rest ≡ b
      → next_parameter (t ∷ rest) ≡ None → (next_parameter rest ≡ None → fill arguments rest ≡ rest)
      → fill arguments (t ∷ rest) ≡ t ∷ rest
  none_by t rest true h e again = absurd (let f : Some 0 ≡ None = sym (parameter_here t rest h) ∙ e in cc)
  none_by t rest false h e again =
      filled_later t rest h
      ∙ ap (λ (ts : List Token). t ∷ ts) (again (none_after _ (sym (parameter_later t rest h) ∙ e)))

  -- a body without parameters
  pub filled_none : (body : List Token) → next_parameter body ≡ None → fill arguments body ≡ body
  filled_none [] e = refl
  filled_none (t ∷ rest) e = none_by t rest _ refl e (λ h. filled_none rest h)
