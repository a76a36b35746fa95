-- Lists made part by part, and the first fault.
use Rattle.std.proofs.Common.{◌≡◌, List, [], ◌∷◌, ◌++◌, ap, sym, ◌∙◌, refl, append_assoc, Ok, Err}
use Rattle.mt_convert.proofs.Common.{Setting, SettingFault, ◌>>=◌, SetFault, SetFails}
use Rattle.mt_convert.specs.declared.fault.SetFault.TheVariants.{OutOfMemory}
use Rattle.mt_convert.specs.inner.Appending.{appended_to}

pub nil_right : {A : Type 0} (xs : List A) → xs ++ [] ≡ xs
nil_right [] = refl
nil_right (x ∷ xs) = ap (λ ys. x ∷ ys) (nil_right xs)

ok_is : {A : Type 0} (x y : List A) → ◌≡◌ {A = Setting (List A)} (Ok x) (Ok y) → x ≡ y
ok_is x y e = cc

pub appended_nil : {A : Type 0} (s : Setting (List A)) → appended_to [] s ≡ s
appended_nil (Ok xs) = refl
appended_nil (Err e) = refl

pub appended_end : {A : Type 0} (there : List A) → appended_to there (Ok []) ≡ Ok there
appended_end there = ap (λ xs. Ok xs) (nil_right there)

-- what is made next comes after what was made
pub appended_step : {A : Type 0} (there next : List A) (s t : Setting (List A)) → appended_to there s ≡ Ok next → appended_to there (s >>= (λ xs. t >>= (λ ys. Ok (xs ++ ys)))) ≡ appended_to next t
appended_step there next (Ok xs) (Ok ys) e = ap (λ zs. Ok zs) (sym (append_assoc there xs ys) ∙ ap (λ zs. zs ++ ys) (ok_is (there ++ xs) next e))
appended_step there next (Ok xs) (Err f) e = refl
appended_step there next (Err f) t e = absurd (cc)

pub appended_err : {A : Type 0} (there : List A) (s t : Setting (List A)) (f : SettingFault) → s ≡ Err f → appended_to there (s >>= (λ xs. t >>= (λ ys. Ok (xs ++ ys)))) ≡ Err f
appended_err there s t f e = ap (λ r. appended_to there (r >>= (λ xs. t >>= (λ ys. Ok (xs ++ ys))))) e

-- a fault of a part is the fault of the whole
pub fails_on : {A B : Type 0} (e : SetFault) (s : Setting A) (t : Setting B) → SetFails e s → ((f : SettingFault) → s ≡ Err f → t ≡ Err f) → SetFails e t
fails_on OutOfMemory s t h k = tt
fails_on _ s t h k = k _ h

pub fails_then : {A B : Type 0} (e : SetFault) (s : Setting A) (next : A → Setting B) → SetFails e s → SetFails e (s >>= next)
fails_then e s next h = fails_on e s (s >>= next) h (λ f k. ap (λ r. r >>= next) k)
