-- The items of lists.
use Rattle.std.proofs.Common.{◌≡◌, ℕ, zero, suc, ◌<◌, List, [], ◌∷◌, length, get_or, refl, arith}

-- whatever is taken for one that is not there
pub same_item : {A : Type 0} (xs : List A) (i : ℕ) (d : A) → i < length xs → get_or xs i d ≡ get_or xs i (get_or xs i d)
same_item [] i d lt = absurd (omega (arith, lt))
same_item (x ∷ xs) zero d lt = refl
same_item (x ∷ xs) (suc i) d lt = same_item xs i d (omega (arith, lt))
