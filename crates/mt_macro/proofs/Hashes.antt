-- The first # that no parameter follows.
use Rattle.std.proofs.Common.{◌≡◌, ℕ, ◌+◌, false, List, ◌∷◌, length, refl, ap, ◌∙◌, arith}
use Rattle.std.specs.Prelude.{not, ◌&&◌}
use Rattle.mt_token.specs.declared.token.Token.{Token}
use Rattle.mt_macro.specs.Braces.{index_after_first}
use Rattle.mt_macro.specs.Parameters.{is_hash, begins_with_parameter, first_bad_parameter}
use Rattle.mt_macro.proofs.Indexes.{shifted, shifted_next}

-- the tokens from an index on decide as the whole body does
pub record Looking (params : ℕ) (body : List Token) (at : ℕ) (rest : List Token) : Type 0 where
  pub is : first_bad_parameter params body ≡ shifted at (first_bad_parameter params rest)
  pub size : at + length rest ≡ length body

bad_later : (params : ℕ) (t : Token) (rest : List Token)
    → is_hash t && not (begins_with_parameter params rest) ≡ false
    → first_bad_parameter params (t ∷ rest) ≡ index_after_first (first_bad_parameter params rest)
bad_later params t rest e = rw e refl

pub looking_more : (params at : ℕ) (body rest rest' : List Token) (t : Token) → Looking params body at rest
    → rest ≡ t ∷ rest' → is_hash t && not (begins_with_parameter params rest') ≡ false
    → Looking params body (at + 1) rest'
looking_more params at body rest rest' t g e h = record {
  is = g.is ∙ (ap (λ xs. shifted at (first_bad_parameter params xs)) e
      ∙ (ap (shifted at) (bad_later params t rest' h) ∙ shifted_next at _));
  size = omega (arith, g.size, ap length e);
}
