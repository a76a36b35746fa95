-- A place among names in order is found by halving.
use Rattle.std.proofs.Common.{◌≡◌, ℕ, zero, suc, ◌+◌, ◌<◌, ◌≤◌, Bool, true, false, List, [], ◌∷◌, length, map, get_or, refl, sym, ap, subst, ◌∙◌, arith}
use Rattle.std.specs.Prelude.{◌||◌}
use Rattle.std.specs.List.{AllByRecursion, list_any}
use Rattle.std.specs.Str.{bytes_eq}
use Rattle.std.specs.List.Sorted.{IsStrictlySortedBy}
use Rattle.std.specs.Cmp.Lexicographic.{slice_cmp}
use Rattle.std.specs.Ordering.{nat_cmp, is_eq, ordering_reverse}
use Rattle.std.specs.declared.cmp.Ordering.{Ordering}
use Rattle.std.specs.declared.cmp.Ordering.TheVariants.{Less, Equal, Greater}
use Rattle.std.proofs.lemmas.Bool.{true≢false}
use Rattle.std.proofs.lemmas.Cmp.{nat_list_cmp_total}
use Rattle.std.proofs.lemmas.Map.Text.{is_eq-slice_cmp}
use Rattle.mt_tables.specs.inner.Places.{AreAfter, IsPlace}

abbrev pub compare : List ℕ → List ℕ → Ordering
compare a b = slice_cmp nat_cmp a b

abbrev pub IsSorted : List (List ℕ) → Type 0
IsSorted ks = IsStrictlySortedBy (slice_cmp nat_cmp) ks

pub turned : (a b : List ℕ) (r : Ordering) → compare a b ≡ r → compare b a ≡ ordering_reverse r
turned a b r e = nat_list_cmp_total.antisymm b a ∙ ap ordering_reverse e

-- a name that is after another is after those before it
above_below : (a b name : List ℕ) → compare a b ≡ Less → compare name b ≡ Greater → compare name a ≡ Greater
above_below a b name h g = turned a name Less (nat_list_cmp_total.trans a b name h (turned name b Greater g))

-- the names from an index on are after a name
abbrev pub AreFrom : ℕ → List ℕ → List (List ℕ) → Type 0
AreFrom zero name ks = AreAfter name ks
AreFrom (suc n) name [] = Unit {0}
AreFrom (suc n) name (k ∷ ks) = AreFrom n name ks

-- the first names are before a name
abbrev pub AreBefore : ℕ → List ℕ → List (List ℕ) → Type 0
AreBefore zero name ks = Unit {0}
AreBefore (suc n) name [] = Unit {0}
AreBefore (suc n) name (k ∷ ks) = (compare name k ≡ Greater) × AreBefore n name ks

pub record Searching (ks : List (List ℕ)) (name : List ℕ) (low high : ℕ) : Type 0 where
  pub order : low ≤ high
  pub fits : high ≤ length ks
  pub before : AreBefore low name ks
  pub after : AreFrom high name ks

none_from : (ks : List (List ℕ)) (name : List ℕ) → AreFrom (length ks) name ks
none_from [] name = tt
none_from (k ∷ ks) name = none_from ks name

pub searching_start : (ks : List (List ℕ)) (name : List ℕ) (n : ℕ) → n ≡ length ks → Searching ks name 0 n
searching_start ks name n e = record {
  order = omega arith;
  fits = omega (arith, e);
  before = tt;
  after = subst (λ (m : ℕ). AreFrom m name ks) (sym e) (none_from ks name);
}

pub all_after : (k name : List ℕ) (ks : List (List ℕ)) → compare name k ≡ Less → AllByRecursion (λ y. compare k y ≡ Less) ks → AreAfter name ks
all_after k name [] l h = tt
all_after k name (y ∷ ys) l h = (nat_list_cmp_total.trans name k y l h.0, all_after k name ys l h.1)

first_below : (k d : List ℕ) (ks : List (List ℕ)) (i : ℕ) → AllByRecursion (λ y. compare k y ≡ Less) ks → i < length ks → compare k (get_or ks i d) ≡ Less
first_below k d [] i h l = absurd (omega (arith, l))
first_below k d (y ∷ ys) zero h l = h.0
first_below k d (y ∷ ys) (suc i) h l = first_below k d ys i h.1 (omega (arith, l))

before_by : (ks : List (List ℕ)) (name d : List ℕ) (i : ℕ) → IsSorted ks → i < length ks → compare name (get_or ks i d) ≡ Greater → AreBefore (suc i) name ks
unfolding IsStrictlySortedBy
before_by [] name d i s h g = tt
before_by (k ∷ ks) name d zero s h g = (g, tt)
before_by (k ∷ ks) name d (suc i) s h g =
    (above_below k (get_or ks i d) name (first_below k d ks i s.0 (omega (arith, h))) g, before_by ks name d i s.1 (omega (arith, h)) g)

after_by : (ks : List (List ℕ)) (name d : List ℕ) (i : ℕ) → IsSorted ks → i < length ks → compare name (get_or ks i d) ≡ Less → AreFrom i name ks
unfolding IsStrictlySortedBy
after_by [] name d i s h l = absurd (omega (arith, h))
after_by (k ∷ ks) name d zero s h l = (l, all_after k name ks l s.0)
after_by (k ∷ ks) name d (suc i) s h l = after_by ks name d i s.1 (omega (arith, h)) l

pub searching_above : (ks : List (List ℕ)) (name d : List ℕ) (low high i : ℕ) → Searching ks name low high → IsSorted ks → i < high → compare name (get_or ks i d) ≡ Greater → Searching ks name (i + 1) high
searching_above ks name d low high i g s h c = record {
  order = omega (arith, h);
  fits = g.fits;
  before = subst (λ (m : ℕ). AreBefore m name ks) (let y : suc i ≡ i + 1 = omega arith in y) (before_by ks name d i s (omega (arith, h, g.fits)) c);
  after = g.after;
}

pub searching_below : (ks : List (List ℕ)) (name d : List ℕ) (low high i : ℕ) → Searching ks name low high → IsSorted ks → low ≤ i → i < high → compare name (get_or ks i d) ≡ Less → Searching ks name low i
searching_below ks name d low high i g s l h c = record {
  order = l;
  fits = omega (arith, h, g.fits);
  before = g.before;
  after = after_by ks name d i s (omega (arith, h, g.fits)) c;
}

or_left : (a b : Bool) → (a || b) ≡ false → a ≡ false
or_left true b h = absurd (cc)
or_left false b h = refl

or_right : (a b : Bool) → (a || b) ≡ false → b ≡ false
or_right true b h = absurd (cc)
or_right false b h = h

not_there : (ks : List (List ℕ)) (name d : List ℕ) (i : ℕ) → list_any (bytes_eq name) ks ≡ false → i < length ks → bytes_eq name (get_or ks i d) ≡ false
not_there [] name d i h l = absurd (omega (arith, l))
not_there (k ∷ ks) name d zero h l = or_left (bytes_eq name k) _ h
not_there (k ∷ ks) name d (suc i) h l = not_there ks name d i (or_right (bytes_eq name k) _ h) (omega (arith, l))

-- a name that is not there is equal to none
pub not_equal : (ks : List (List ℕ)) (name d : List ℕ) (i : ℕ) → list_any (bytes_eq name) ks ≡ false → i < length ks → compare name (get_or ks i d) ≡ Equal → ⊥
not_equal ks name d i h l e = true≢false (sym (ap is_eq e) ∙ (is_eq-slice_cmp name (get_or ks i d) ∙ not_there ks name d i h l))

place_by : (ks : List (List ℕ)) (name : List ℕ) (i : ℕ) → i ≤ length ks → AreBefore i name ks → AreFrom i name ks → IsPlace name ks i
place_by ks name zero h b a = a
place_by [] name (suc i) h b a = absurd (omega (arith, h))
place_by (k ∷ ks) name (suc i) h b a = (b.0, place_by ks name i (omega (arith, h)) b.1 a)

pub searching_end : (ks : List (List ℕ)) (name : List ℕ) (low high : ℕ) → Searching ks name low high → high ≤ low → IsPlace name ks low
searching_end ks name low high g h =
    place_by ks name low (omega (arith, g.order, g.fits)) g.before (subst (λ (m : ℕ). AreFrom m name ks) (let y : high ≡ low = omega (arith, g.order, h) in y) g.after)

-- the name with the number at an index
pub keyed : (f : ℕ → List ℕ) (order : List ℕ) (i : ℕ) (d : List ℕ) → i < length order → get_or (map f order) i d ≡ f (get_or order i 0)
keyed f [] i d h = absurd (omega (arith, h))
keyed f (m ∷ order) zero d h = refl
keyed f (m ∷ order) (suc i) d h = keyed f order i d (omega (arith, h))
