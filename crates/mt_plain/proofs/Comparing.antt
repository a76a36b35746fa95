-- The name of a row and another name, compared byte by byte.
use Rattle.std.proofs.Common.{◌≡◌, ℕ, ◌+◌, ◌<◌, ◌≤◌, Bool, true, false, ◌&&◌, List, [], ◌∷◌, length, get_or, take, refl, sym, ◌∙◌, ap, add-one, arith}
use Rattle.std.specs.Prelude.{◌==◌, if◌then◌else◌}
use Rattle.std.specs.Str.{bytes_eq}
use Rattle.std.proofs.lemmas.Bool.{ne_eqb}
use Rattle.mt_plain.specs.Names.{name_length}

-- whether what is before the first blank is a name
abbrev pub row_eq : List ℕ → List ℕ → Bool
row_eq [] name = bytes_eq [] name
row_eq (b ∷ rest) [] = if b == 32 then true else false
row_eq (b ∷ rest) (c ∷ name) = if b == 32 then false else (b == c) && row_eq rest name

pub row_eq_is : (row name : List ℕ) → row_eq row name ≡ bytes_eq (take (name_length row) row) name
row_eq_is [] name = refl
row_eq_is (b ∷ rest) [] = by_test (b == 32)
  where
    by_test : (blank : Bool) → (if blank then true else false) ≡ bytes_eq (take (if blank then 0 else name_length rest + 1) (b ∷ rest)) []
    by_test true = refl
    by_test false = ap (λ n. bytes_eq (take n (b ∷ rest)) []) (sym (add-one (name_length rest)))
row_eq_is (b ∷ rest) (c ∷ name) = by_test (row_eq_is rest name) (b == 32)
  where
    by_test : row_eq rest name ≡ bytes_eq (take (name_length rest) rest) name → (blank : Bool) → (if blank then false else (b == c) && row_eq rest name) ≡ bytes_eq (take (if blank then 0 else name_length rest + 1) (b ∷ rest)) (c ∷ name)
    by_test more true = refl
    by_test more false =
        ap (λ (t : Bool). (b == c) && t) more
        ∙ ap (λ n. bytes_eq (take n (b ∷ rest)) (c ∷ name)) (sym (add-one (name_length rest)))

-- the name of the row ends
pub at_end : (bytes left : List ℕ) → length bytes < 1 → bytes_eq [] left ≡ row_eq bytes left
at_end [] left none = refl
at_end (b ∷ rest) left none = absurd (omega (arith, none))

pub at_blank : (bytes left : List ℕ) → 1 ≤ length bytes → get_or bytes 0 0 ≡ 32 → bytes_eq [] left ≡ row_eq bytes left
at_blank [] left some e = absurd (omega (arith, some))
at_blank (b ∷ rest) [] some e = sym (ap (λ (blank : Bool). if blank then true else false) (ap (λ x. x == 32) e))
at_blank (b ∷ rest) (c ∷ name) some e = sym (ap (λ (blank : Bool). if blank then false else (b == c) && row_eq rest name) (ap (λ x. x == 32) e))

-- the other name ends
pub at_other_end : (bytes left : List ℕ) → 1 ≤ length bytes → (get_or bytes 0 0 ≡ 32 → ⊥) → length left < 1 → false ≡ row_eq bytes left
at_other_end [] left some e none = absurd (omega (arith, some))
at_other_end (b ∷ rest) [] some e none = sym (ap (λ (blank : Bool). if blank then true else false) (ne_eqb b 32 e))
at_other_end (b ∷ rest) (c ∷ name) some e none = absurd (omega (arith, none))

-- the names part
pub at_parting : (bytes left : List ℕ) → 1 ≤ length bytes → (get_or bytes 0 0 ≡ 32 → ⊥) → 1 ≤ length left → (get_or left 0 0 ≡ get_or bytes 0 0 → ⊥) → false ≡ row_eq bytes left
at_parting [] left some e more unequal = absurd (omega (arith, some))
at_parting (b ∷ rest) [] some e more unequal = absurd (omega (arith, more))
at_parting (b ∷ rest) (c ∷ name) some e more unequal =
    sym (ap (λ (blank : Bool). if blank then false else (b == c) && row_eq rest name) (ne_eqb b 32 e)
    ∙ ap (λ (same : Bool). same && row_eq rest name) (ne_eqb b c (λ same. unequal (sym same))))

-- a name with nothing before its end
pub no_name : (empty : Bool) (left : List ℕ) → empty ≡ (length left == 0) → empty ≡ bytes_eq [] left
no_name empty [] e = e
no_name empty (c ∷ left) e = e ∙ ne_eqb (length (c ∷ left)) 0 (λ z. omega (arith, z))
