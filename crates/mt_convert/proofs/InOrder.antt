-- Items of the flat list set in order (`items_set`): those that a turn passes, and then those after them.
use Rattle.std.proofs.Common.{◌≡◌, List, [], ◌∷◌, ◌++◌, ap, sym, ◌∙◌, refl, Option, Some, None, ℤ, Ok, Err}
use Rattle.mt_convert.proofs.Common.{SetValue, Setting, SettingFault, ◌>>=◌, ◌>>◌, test_value, Current, SetFault, SetFails, set_item, set_items, FlatItem, current_after_item, current_after_items, HalfValue, HalfKern}
use Rattle.std.specs.Prelude.{⊤}
use Rattle.mt_convert.specs.inner.Appending.{appended_to}
use Rattle.mt_convert.specs.inner.Lengths.{test_kern}
use Rattle.mt_convert.specs.inner.Turns.{PassedElement, flat_item, flat_items, kern_items, kern_of}
use Rattle.mt_convert.proofs.Appending.{appended_nil, appended_step, appended_err, fails_on}

-- ---- one part of the list after another

first_of_both : {A : Type 0} (s : Setting A) (a b r : Setting (List A)) → r ≡ (a >>= (λ hs. b >>= (λ ks. Ok (hs ++ ks)))) → (s >>= (λ h. r >>= (λ hs. Ok (h ∷ hs)))) ≡ ((s >>= (λ h. a >>= (λ hs. Ok (h ∷ hs)))) >>= (λ hs. b >>= (λ ks. Ok (hs ++ ks))))
first_of_both (Ok h) (Ok hs) (Ok ks) r e = ap (λ t. t >>= (λ xs. Ok (h ∷ xs))) e
first_of_both (Ok h) (Ok hs) (Err f) r e = ap (λ t. t >>= (λ xs. Ok (h ∷ xs))) e
first_of_both (Ok h) (Err f) b r e = ap (λ t. t >>= (λ xs. Ok (h ∷ xs))) e
first_of_both (Err f) a b r e = refl

items_append : (fonts : SetValue) (xs ys : List FlatItem) (current : Current) → set_items fonts current (xs ++ ys) ≡ (set_items fonts current xs >>= (λ hs. set_items fonts (current_after_items current xs) ys >>= (λ ks. Ok (hs ++ ks))))
items_append fonts [] ys current = sym (appended_nil (set_items fonts current ys))
items_append fonts (x ∷ xs) ys current =
    first_of_both (set_item fonts current x) (set_items fonts (current_after_item current x) xs) (set_items fonts (current_after_items (current_after_item current x) xs) ys) (set_items fonts (current_after_item current x) (xs ++ ys))
    (items_append fonts xs ys (current_after_item current x))

-- ---- an item, and the kern after it

abbrev pub kern_values : Option ℤ → List HalfValue
kern_values None = []
kern_values (Some amount) = HalfKern amount ∷ []

tested_kern : (amount : ℤ) (t : Setting ⊤) → t ≡ Ok tt → ((t >> Ok (HalfKern amount)) >>= (λ half. Ok (half ∷ []))) ≡ Ok (HalfKern amount ∷ [])
tested_kern amount t e = rw e refl

kern_set : (fonts : SetValue) (current : Current) (kern : Option ℤ) → test_kern kern ≡ Ok tt → set_items fonts current (kern_items kern) ≡ Ok (kern_values kern)
kern_set fonts current None e = refl
kern_set fonts current (Some amount) e = tested_kern amount (test_value amount) e

kern_fails : (fonts : SetValue) (current : Current) (kern : Option ℤ) (f : SettingFault) → test_kern kern ≡ Err f → set_items fonts current (kern_items kern) ≡ Err f
kern_fails fonts current None f e = absurd (cc)
kern_fails fonts current (Some amount) f e = ap (λ t. (t >> Ok (HalfKern amount)) >>= (λ half. Ok (half ∷ []))) e

both_set : (s : Setting HalfValue) (h : HalfValue) (t : Setting (List HalfValue)) (ks : List HalfValue) → s ≡ Ok h → t ≡ Ok ks → (s >>= (λ half. t >>= (λ halves. Ok (half ∷ halves)))) ≡ Ok (h ∷ ks)
both_set s h t ks e f = rw (e, f) refl

second_fails : (s : Setting HalfValue) (h : HalfValue) (t : Setting (List HalfValue)) (f : SettingFault) → s ≡ Ok h → t ≡ Err f → (s >>= (λ half. t >>= (λ halves. Ok (half ∷ halves)))) ≡ Err f
second_fails s h t f e g = rw (e, g) refl

passed_set : (fonts : SetValue) (current : Current) (p : PassedElement) (h : HalfValue) → set_item fonts current (flat_item fonts p) ≡ Ok h → test_kern (kern_of p) ≡ Ok tt → set_items fonts current (flat_items fonts p) ≡ Ok ((h ∷ kern_values (kern_of p)))
passed_set fonts current p h e k =
    let after = current_after_item current (flat_item fonts p) in
    both_set (set_item fonts current (flat_item fonts p)) h (set_items fonts after (kern_items (kern_of p))) (kern_values (kern_of p)) e (kern_set fonts after (kern_of p) k)

-- a fault of the item, or of the kern, is the fault of both
pub item_err : (fonts : SetValue) (current : Current) (p : PassedElement) (fault : SetFault) → SetFails fault (set_item fonts current (flat_item fonts p)) → SetFails fault (set_items fonts current (flat_items fonts p))
item_err fonts current p fault h =
    let after = current_after_item current (flat_item fonts p) in
    fails_on fault (set_item fonts current (flat_item fonts p)) (set_items fonts current (flat_items fonts p)) h
    (λ f k. ap (λ s. s >>= (λ half. set_items fonts after (kern_items (kern_of p)) >>= (λ halves. Ok (half ∷ halves)))) k)

pub kern_err : (fonts : SetValue) (current : Current) (p : PassedElement) (h : HalfValue) (fault : SetFault) → set_item fonts current (flat_item fonts p) ≡ Ok h → SetFails fault (test_kern (kern_of p)) → SetFails fault (set_items fonts current (flat_items fonts p))
kern_err fonts current p h fault e k =
    let after = current_after_item current (flat_item fonts p) in
    fails_on fault (test_kern (kern_of p)) (set_items fonts current (flat_items fonts p)) k
    (λ f x. second_fails (set_item fonts current (flat_item fonts p)) h (set_items fonts after (kern_items (kern_of p))) f e (kern_fails fonts after (kern_of p) f x))

-- ---- after what was set before

pub items_set : (fonts : SetValue) (current : Current) (there : List HalfValue) (p : PassedElement) (h : HalfValue) (rest : List FlatItem) → set_item fonts current (flat_item fonts p) ≡ Ok h → test_kern (kern_of p) ≡ Ok tt → appended_to there (set_items fonts current (flat_items fonts p ++ rest)) ≡ appended_to (there ++ h ∷ kern_values (kern_of p)) (set_items fonts (current_after_items current (flat_items fonts p)) rest)
items_set fonts current there p h rest e k =
    let next = h ∷ kern_values (kern_of p) in
    ap (λ s. appended_to there s) (items_append fonts (flat_items fonts p) rest current)
    ∙ appended_step there (there ++ next) (set_items fonts current (flat_items fonts p)) (set_items fonts (current_after_items current (flat_items fonts p)) rest)
    (ap (λ s. appended_to there s) (passed_set fonts current p h e k))

pub items_fail : (fonts : SetValue) (current : Current) (there : List HalfValue) (p : PassedElement) (rest : List FlatItem) (f : SettingFault) → set_items fonts current (flat_items fonts p) ≡ Err f → appended_to there (set_items fonts current (flat_items fonts p ++ rest)) ≡ Err f
items_fail fonts current there p rest f e =
    ap (λ s. appended_to there s) (items_append fonts (flat_items fonts p) rest current)
    ∙ appended_err there (set_items fonts current (flat_items fonts p)) (set_items fonts (current_after_items current (flat_items fonts p)) rest) f e
