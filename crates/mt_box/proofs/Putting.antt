-- How far places are put after others.
use Rattle.std.proofs.Common.{◌≡◌, ℕ, ◌≤◌, ◌-◌, List, [], ◌∷◌, ◌++◌, length, refl, arith, append_assoc, length-append, sym, ◌∙◌, ap, Option, Some, None, Err}
use Rattle.mt_box.specs.declared.place.Place.{Place}
use Rattle.mt_box.specs.declared.error.PlaceError.{PlaceError}
use Rattle.mt_box.specs.declared.error.PlaceError.TheVariants.{OutOfRange, TooMany, OutOfMemory}
use Rattle.mt_box.specs.Placing.{place_fault, first_place_fault, or_else, Puts}
use Rattle.mt_box.proofs.Lists.{nil_right}

-- ---- faults

skip_one : (o b c d : Option PlaceError) → or_else o b ≡ None → (b ≡ None → c ≡ d) → or_else o c ≡ d
skip_one None b c d e k = k e
skip_one (Some f) b c d e k = cc

stop_one : (o b c : Option PlaceError) (f : PlaceError) → or_else o b ≡ Some f → (b ≡ Some f → c ≡ Some f) → or_else o c ≡ Some f
stop_one None b c f e k = k e
stop_one (Some g) b c f e k = e

fault_skip : (r : ℕ) (xs ys : List Place) → first_place_fault r xs ≡ None → first_place_fault r (xs ++ ys) ≡ first_place_fault (r - length xs) ys
fault_skip r [] ys e = ap (λ k. first_place_fault k ys) (omega arith)
fault_skip r (x ∷ xs) ys e =
    let n : r - 1 - length xs ≡ r - length (x ∷ xs) = omega arith in
    skip_one (place_fault r x) (first_place_fault (r - 1) xs) (first_place_fault (r - 1) (xs ++ ys)) _ e (λ k. fault_skip (r - 1) xs ys k ∙ ap (λ m. first_place_fault m ys) n)

fault_stop : (r : ℕ) (xs ys : List Place) (f : PlaceError) → first_place_fault r xs ≡ Some f → first_place_fault r (xs ++ ys) ≡ Some f
fault_stop r [] ys f e = cc
fault_stop r (x ∷ xs) ys f e = stop_one (place_fault r x) (first_place_fault (r - 1) xs) (first_place_fault (r - 1) (xs ++ ys)) f e (fault_stop (r - 1) xs ys f)

-- ---- some of the places are put, and the rest are left

pub record Putting (whole : List Place) (room : ℕ) (old now rest : List Place) : Type 0 where
  pub same : now ++ rest ≡ old ++ whole
  pub fault : first_place_fault (room - length old) whole ≡ first_place_fault (room - length now) rest
  pub fits : length now ≤ room

pub putting_start : (whole : List Place) (room : ℕ) (old : List Place) → length old ≤ room → Putting whole room old old whole
putting_start whole room old fits = record { same = refl; fault = refl; fits = fits }

pub putting_step : (whole : List Place) (room : ℕ) (old now next rest first rest' : List Place) → Putting whole room old now rest → rest ≡ first ++ rest'
    → (next ≡ now ++ first) × (length next ≤ room) × (first_place_fault (room - length now) first ≡ None) → Putting whole room old next rest'
putting_step whole room old now next rest first rest' p e put =
    let few : room - length now - length first ≡ room - length next = omega (arith, length-append now first, ap length put.0) in
    record {
      same = ap (λ ps. ps ++ rest') put.0 ∙ (append_assoc now first rest' ∙ (ap (λ ps. now ++ ps) (sym e) ∙ p.same));
      fault = p.fault ∙ (ap (first_place_fault (room - length now)) e ∙ (fault_skip (room - length now) first rest' put.2 ∙ ap (λ k. first_place_fault k rest') few));
      fits = put.1;
    }

pub putting_err : (whole : List Place) (room : ℕ) (old now next last rest first rest' : List Place) (f : PlaceError) → Putting whole room old now rest → rest ≡ first ++ rest' → Puts room now first (Err f) next → Puts room old whole (Err f) last
putting_err whole room old now next last rest first rest' OutOfMemory p e k = tt
putting_err whole room old now next last rest first rest' (OutOfRange x) p e k = p.fault ∙ (ap (first_place_fault (room - length now)) e ∙ fault_stop (room - length now) first rest' (OutOfRange x) k)
putting_err whole room old now next last rest first rest' TooMany p e k = p.fault ∙ (ap (first_place_fault (room - length now)) e ∙ fault_stop (room - length now) first rest' TooMany k)

pub putting_end : (whole : List Place) (room : ℕ) (old now rest : List Place) → Putting whole room old now rest → rest ≡ [] → (now ≡ old ++ whole) × (length now ≤ room) × (first_place_fault (room - length old) whole ≡ None)
putting_end whole room old now rest p e =
    (sym (nil_right now) ∙ (ap (λ ps. now ++ ps) (sym e) ∙ p.same), p.fits, p.fault ∙ ap (first_place_fault (room - length now)) e)
