-- Lists of items, as tokens.
use Rattle.std.proofs.Common.{◌≡◌, ◌<◌, ◌≤◌, ◌-◌, ℕ, List, [], ◌∷◌, length, get_or, map, take, drop, refl, sym, ap, ◌∙◌, arith}
use Rattle.std.proofs.lemmas.List.{take_all, take-map, drop-map, length-drop}
use Rattle.mt_token.specs.declared.token.Token.{Token}

module _ {T : Type 0} (token : T → Token) where
  -- the first of some items, and the others
  pub first_of : (ts : List T) (t : T) → 1 ≤ length ts → t ≡ get_or ts 0 t → map token ts ≡ token t ∷ map token (take (length ts - 1) (drop 1 ts))
  first_of [] t low e = absurd (omega (arith, low))
  first_of (x ∷ xs) t low e =
      ap (λ y. y ∷ map token xs) (ap token (sym e)) ∙ ap (λ r. token t ∷ map token r) (sym (take_all (length (x ∷ xs) - 1) xs (omega arith)))

  pub nothing_read : (ts : List T) → length ts < 1 → map token ts ≡ []
  nothing_read [] low = refl
  nothing_read (x ∷ xs) low = absurd (omega (arith, low))

  pub take_mapped : (n : ℕ) (ts : List T) → map token (take n ts) ≡ take n (map token ts)
  take_mapped n ts = sym (take-map token n ts)

  pub drop_mapped : (n : ℕ) (ts : List T) → map token (take (length ts - n) (drop n ts)) ≡ drop n (map token ts)
  drop_mapped n ts = ap (map token) (take_all (length ts - n) (drop n ts) (omega (arith, length-drop n ts))) ∙ sym (drop-map token n ts)
