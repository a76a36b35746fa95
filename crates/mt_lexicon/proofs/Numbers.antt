-- Names are found by their numbers.
use Rattle.std.proofs.Common.{◌≡◌, ℕ, List, [], ◌∷◌, ◌++◌, map, refl, sym, ap, ◌∙◌, Bool, true, false}
use Rattle.std.proofs.lemmas.Bool.{false≢true}
use Rattle.std.specs.Prelude.{◌||◌, Some, slice_get, get_or, if◌then◌else◌}
use Rattle.std.specs.List.{position, list_any}
use Rattle.std.specs.Str.{bytes_eq}
use Rattle.std.specs.Option.{option_map}
use Rattle.std.proofs.lemmas.Option.{slice_get-map, slice_get-get_or}
use Rattle.std.proofs.lemmas.Slice.Eq.{bytes_eq-Decides}
use Rattle.std.proofs.lemmas.List.{map-append, append-nil}
use Rattle.std.proofs.lemmas.List.Folds.{list_any-append}
use Rattle.std.proofs.lemmas.List.Quantifiers.{position-Some}
use Rattle.mt_lexicon.specs.Meaning.{NameTable, Extends, IsDistinct}

pub numbered : {X : Type 0} (v : X → List ℕ) (keys : List X) (i : ℕ) (k : X) (name : List ℕ) → slice_get keys i ≡ Some k → bytes_eq name (v k) ≡ true → slice_get (map v keys) i ≡ Some name
numbered v keys i k name g e = slice_get-map v keys i ∙ (ap (option_map v) g ∙ ap Some (sym ((bytes_eq-Decides name (v k)).0 e)))

pub found_at : {X : Type 0} (p : X → Bool) (keys : List X) (i : ℕ) → position p keys ≡ Some i → (k : X) × (slice_get keys i ≡ Some k) × (p k ≡ true)
found_at p [] i e = absurd (cc)
found_at p (x ∷ xs) i e = let h = position-Some p (x ∷ xs) i x e in (get_or (x ∷ xs) i x, slice_get-get_or (x ∷ xs) i x h.0, h.1)

pub extends_itself : (names : NameTable) → Extends names names
extends_itself names = ([], sym (append-nil names))

pub extends_keys : {X : Type 0} (v : X → List ℕ) (any : Bool) (keys : List X) (k : X) → Extends (map v keys) (map v (if any then keys else keys ++ k ∷ []))
extends_keys v true keys k = extends_itself (map v keys)
extends_keys v false keys k = (v k ∷ [], map-append v keys (k ∷ []))

or_false : (a b : Bool) → (a || b) ≡ false → a ≡ false
or_false true b h = h
or_false false b h = refl

or_false_right : (a b : Bool) → (a || b) ≡ false → b ≡ false
or_false_right true b h = absurd (cc)
or_false_right false b h = h

by_equal : (a b : List ℕ) (x y : Bool) → bytes_eq a b ≡ x → bytes_eq b a ≡ y → x ≡ false → y ≡ false
by_equal a b x false h k e = refl
by_equal a b x true h k e = absurd (let same : b ≡ a = (bytes_eq-Decides b a).0 k in let no : bytes_eq a b ≡ true = (bytes_eq-Decides a b).1 (sym same) in false≢true (sym e ∙ sym h ∙ no))

pub other_way : (a b : List ℕ) → bytes_eq a b ≡ false → bytes_eq b a ≡ false
other_way a b h = by_equal a b (bytes_eq a b) (bytes_eq b a) refl refl h

distinct_append : (ns : NameTable) (name : List ℕ) → IsDistinct ns → list_any (bytes_eq name) ns ≡ false → IsDistinct (ns ++ name ∷ [])
distinct_append [] name d h = (refl, tt)
distinct_append (n ∷ ns) name d h =
    let here : bytes_eq name n ≡ false = or_false (bytes_eq name n) _ h in
    (list_any-append (bytes_eq n) ns (name ∷ []) ∙ rw (d.0, other_way name n here) refl, distinct_append ns name d.1 (or_false_right (bytes_eq name n) _ h))

pub distinct_keys : {X : Type 0} (v : X → List ℕ) (any : Bool) (keys : List X) (k : X) (name : List ℕ) → v k ≡ name → list_any (bytes_eq name) (map v keys) ≡ false → IsDistinct (map v keys) → IsDistinct (map v (if any then keys else keys ++ k ∷ []))
distinct_keys v true keys k name e h d = d
distinct_keys v false keys k name e h d = rw (map-append v keys (k ∷ [])) (rw e (distinct_append (map v keys) name d h))

any_map : {X : Type 0} (v : X → List ℕ) (p : List ℕ → Bool) (keys : List X) → list_any p (map v keys) ≡ list_any (λ k. p (v k)) keys
any_map v p [] = refl
any_map v p (k ∷ keys) = ap (λ b. p (v k) || b) (any_map v p keys)

pub not_there : {X : Type 0} (v : X → List ℕ) (name : List ℕ) (keys : List X) → list_any (λ k. bytes_eq name (v k)) keys ≡ false → list_any (bytes_eq name) (map v keys) ≡ false
not_there v name keys e = any_map v (bytes_eq name) keys ∙ e
