-- Tokens up to one that ends them, taken a token at a time.
use Rattle.std.proofs.Common.{◌≡◌, ℕ, zero, suc, ◌+◌, ◌≤◌, Bool, true, false, List, [], ◌∷◌, ◌++◌, length, take, drop, refl, sym, ap, ◌∙◌, arith, add-one}
use Rattle.std.specs.Prelude.{Some, None, ◌==◌, ◌&&◌}
use Rattle.std.proofs.lemmas.List.{append-nil}
use Rattle.mt_token.specs.declared.token.Token.{Token}
use Rattle.mt_macro.specs.Braces.{onto, level_after, is_close}
use Rattle.mt_reader.specs.Dollars.{ends_formula, up_to_end, after_end}
use Rattle.mt_macro.proofs.Taking.{onto_all, onto_none, onto_more}

-- so many tokens are passed, and these are left
pub record Cut (first : List Token) (at : ℕ) (rest : List Token) : Type 0 where
  pub is : drop at first ≡ rest
  pub count : at + length rest ≡ length first

pub cut_start : (first : List Token) → Cut first 0 first
cut_start first = record { is = refl; count = omega arith }

taken_next : (at : ℕ) (first rest : List Token) (t : Token) → drop at first ≡ t ∷ rest → take (suc at) first ≡ take at first ++ t ∷ []
taken_next zero [] rest t e = absurd (cc)
taken_next zero (x ∷ xs) rest t e = let h : x ≡ t = cc in ap (λ y. y ∷ []) h
taken_next (suc at) [] rest t e = absurd (cc)
taken_next (suc at) (x ∷ xs) rest t e = ap (λ l. x ∷ l) (taken_next at xs rest t e)

left_next : (at : ℕ) (first rest : List Token) (t : Token) → drop at first ≡ t ∷ rest → drop (suc at) first ≡ rest
left_next zero [] rest t e = absurd (cc)
left_next zero (x ∷ xs) rest t e = cc
left_next (suc at) [] rest t e = absurd (cc)
left_next (suc at) (x ∷ xs) rest t e = left_next at xs rest t e

pub cut_take : (at : ℕ) (first rest rest' : List Token) (t : Token) → Cut first at rest → rest ≡ t ∷ rest' → take (at + 1) first ≡ take at first ++ t ∷ []
cut_take at first rest rest' t c e = rw add-one (taken_next at first rest' t (c.is ∙ e))

pub cut_next : (at : ℕ) (first rest rest' : List Token) (t : Token) → Cut first at rest → rest ≡ t ∷ rest' → Cut first (at + 1) rest'
cut_next at first rest rest' t c e = record {
  is = rw add-one (left_next at first rest' t (c.is ∙ e));
  count = omega (arith, c.count, ap length e);
}

-- a formula of which a part is passed
pub record InFormula (display : Bool) (first rest : List Token) (level at : ℕ) : Type 0 where
  pub cut : Cut first at rest
  pub is : up_to_end display 0 first ≡ onto_all (take at first) (up_to_end display level rest)
  pub small : level ≤ at

pub formula_start : (display : Bool) (first : List Token) → InFormula display first first 0 0
formula_start display first = record { cut = cut_start first; is = onto_none _; small = omega arith }

formula_on : (display : Bool) (level : ℕ) (t : Token) (rest : List Token) → (level == 0) && is_close t ≡ false → (level == 0) && ends_formula display t rest ≡ false → up_to_end display level (t ∷ rest) ≡ onto t (up_to_end display (level_after level t) rest)
formula_on display level t rest e f = rw (e, f, up_to_end) refl

pub formula_more : (display : Bool) (first rest rest' : List Token) (level level' at : ℕ) (t : Token) → InFormula display first rest level at → rest ≡ t ∷ rest' → (level == 0) && is_close t ≡ false → (level == 0) && ends_formula display t rest' ≡ false → level' ≡ level_after level t → level' ≤ level + 1 → InFormula display first rest' level' (at + 1)
formula_more display first rest rest' level level' at t g e closes ends l low = record {
  cut = cut_next at first rest rest' t g.cut e;
  is = g.is ∙ (ap (λ r. onto_all (take at first) (up_to_end display level r)) e
      ∙ (ap (onto_all (take at first)) (formula_on display level t rest' closes ends)
      ∙ (onto_more (take at first) t _
      ∙ (ap (λ n. onto_all (take at first ++ t ∷ []) (up_to_end display n rest')) (sym l)
      ∙ ap (λ x. onto_all x (up_to_end display level' rest')) (sym (cut_take at first rest rest' t g.cut e))))));
  small = omega (arith, g.small, low);
}

pub formula_ends : (display : Bool) (first rest rest' : List Token) (level at : ℕ) (t : Token) → InFormula display first rest level at → rest ≡ t ∷ rest' → (level == 0) && is_close t ≡ false → (level == 0) && ends_formula display t rest' ≡ true → up_to_end display 0 first ≡ Some (record { argument = take at first; after = after_end display rest' })
formula_ends display first rest rest' level at t g e closes ends =
    g.is ∙ (ap (λ r. onto_all (take at first) (up_to_end display level r)) e
    ∙ (ap (onto_all (take at first)) (let f : up_to_end display level (t ∷ rest') ≡ Some (record { argument = []; after = after_end display rest' }) = rw (closes, ends, up_to_end) refl in f)
    ∙ ap (λ x. Some (record { argument = x; after = after_end display rest' })) (append-nil (take at first))))

pub formula_closed : (display : Bool) (first rest rest' : List Token) (level at : ℕ) (t : Token) → InFormula display first rest level at → rest ≡ t ∷ rest' → (level == 0) && is_close t ≡ true → up_to_end display 0 first ≡ None
formula_closed display first rest rest' level at t g e closes =
    g.is ∙ (ap (λ r. onto_all (take at first) (up_to_end display level r)) e
    ∙ ap (onto_all (take at first)) (let f : up_to_end display level (t ∷ rest') ≡ None = rw (closes, up_to_end) refl in f))

pub formula_open : (display : Bool) (first rest : List Token) (level at : ℕ) → InFormula display first rest level at → rest ≡ [] → up_to_end display 0 first ≡ None
formula_open display first rest level at g e = g.is ∙ ap (λ r. onto_all (take at first) (up_to_end display level r)) e
