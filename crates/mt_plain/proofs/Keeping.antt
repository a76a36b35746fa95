-- Code tables keep what holds of them.
use Rattle.std.proofs.Common.{◌≡◌, ℕ, zero, suc, Bool, true, false, ◌&&◌, List, [], ◌∷◌, set, Option, refl, ◌∙◌, length-set}
use Rattle.std.specs.List.{list_all}
use Rattle.mt_plain.specs.CodeTables.{plain_codes, is_math_code, is_delcode, AreCodes}
use Rattle.mt_plain.proofs.Searching.{first, second}

both : (a b : Bool) → a ≡ true → b ≡ true → (a && b) ≡ true
both true b e f = f
both false b e f = e

module _ {A : Type 0} (p : A → Bool) where
  list_all-set : (xs : List A) (i : ℕ) (v : A) → list_all p xs ≡ true → p v ≡ true → list_all p (set xs i v) ≡ true
  list_all-set [] i v all one = refl
  list_all-set (x ∷ xs) zero v all one = both _ _ one (second _ _ all)
  list_all-set (x ∷ xs) (suc i) v all one = both _ _ (first _ _ all) (list_all-set xs i v (second _ _ all) one)

plain_kept : AreCodes plain_codes.math plain_codes.delimiters
unfolding plain_codes
plain_kept = record { math_length = refl; delimiters_length = refl; math_codes = refl; delcodes = refl }

pub kept_of : (math : List ℕ) (delimiters : List (Option ℕ)) → math ≡ plain_codes.math → delimiters ≡ plain_codes.delimiters → AreCodes math delimiters
kept_of math delimiters e f = rw (e, f) plain_kept

module _ (math : List ℕ) (delimiters : List (Option ℕ)) (kept : AreCodes math delimiters) (i : ℕ) where
  pub math_kept : (code : ℕ) → is_math_code code ≡ true → AreCodes (set math i code) delimiters
  math_kept code one = record { math_length = length-set math i code ∙ kept.math_length; delimiters_length = kept.delimiters_length; math_codes = list_all-set is_math_code math i code kept.math_codes one; delcodes = kept.delcodes }

  pub delcode_kept : (code : Option ℕ) → is_delcode code ≡ true → AreCodes math (set delimiters i code)
  delcode_kept code one = record { math_length = kept.math_length; delimiters_length = length-set delimiters i code ∙ kept.delimiters_length; math_codes = kept.math_codes; delcodes = list_all-set is_delcode delimiters i code kept.delcodes one }
