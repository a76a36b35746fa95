-- Steps one after another: the first one is made, or its fault is that of the whole.
use Rattle.std.proofs.Common.{◌≡◌, ap, sym, subst, refl, Ok, Err}
use Rattle.mt_convert.proofs.Common.{Setting, ◌>>=◌}

-- what holds after the first step holds of the whole
pub first_made : {A B : Type 0} (P : Setting B → Type 0) (s : Setting A) (a : A) (next : A → Setting B) → s ≡ Ok a → P (next a) → P (s >>= next)
first_made P s a next e h = subst P (sym (ap (λ r. r >>= next) e)) h

-- two steps as one
pub joined : {A B C : Type 0} (s : Setting A) (step : A → Setting B) (next : B → Setting C) → (s >>= (λ a. step a >>= next)) ≡ ((s >>= step) >>= next)
joined (Ok a) step next = refl
joined (Err fault) step next = refl
