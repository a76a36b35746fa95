-- Places of names among names in order.
use Rattle.std.specs.Prelude.{◌≡◌, ℕ, zero, suc, List, [], ◌∷◌}
use Rattle.std.specs.Cmp.Lexicographic.{slice_cmp}
use Rattle.std.specs.Ordering.{nat_cmp}
use Rattle.std.specs.declared.cmp.Ordering.TheVariants.{Less, Greater}

-- all names are after a name
abbrev pub AreAfter : List ℕ → List (List ℕ) → Type 0
AreAfter name [] = Unit {0}
AreAfter name (k ∷ ks) = (slice_cmp nat_cmp name k ≡ Less) × AreAfter name ks

-- the first names are before a name, and the others after it
abbrev pub IsPlace : List ℕ → List (List ℕ) → ℕ → Type 0
IsPlace name ks zero = AreAfter name ks
IsPlace name [] (suc i) = ⊥
IsPlace name (k ∷ ks) (suc i) = (slice_cmp nat_cmp name k ≡ Greater) × IsPlace name ks i
