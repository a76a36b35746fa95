-- A search by slots.
use Rattle.std.proofs.Common.{◌≡◌, ℕ, zero, suc, ◌+◌, ◌-◌, ◌<◌, ◌≤◌, Bool, true, false, ◌&&◌, List, [], ◌∷◌, map, length, get_or, take, drop, Option, Some, None, refl, sym, ◌∙◌, ap, true≢false, arith}
use Rattle.std.specs.List.{list_all, range_with_len, take-map, drop-map}
use Rattle.std.specs.Map.{lookup}
use Rattle.std.specs.Option.{is_some}
use Rattle.std.specs.Prelude.{nat_le, if◌then◌else◌}
use Rattle.std.specs.Str.{bytes_eq}
use Rattle.std.proofs.lemmas.Bool.{false_from_ne_true}
use Rattle.std.proofs.lemmas.Bool.Decides.{nat_tests}
use Rattle.std.proofs.lemmas.Map.Entries.{lookup_tail}
use Rattle.std.proofs.lemmas.Slice.Eq.{bytes_eq-Decides}
use Rattle.mt_plain.specs.declared.meaning.Meaning.{Meaning}
use Rattle.mt_plain.specs.Names.{NameRow, row_name, control, meanings}
use Rattle.mt_plain.specs.inner.Buckets.{AreBuckets, in_rows, is_slot, rows_in, slot_count, slot_of, start_of}

pub first : (a b : Bool) → (a && b) ≡ true → a ≡ true
first true b e = refl
first false b e = e

pub second : (a b : Bool) → (a && b) ≡ true → b ≡ true
second true b e = e
second false b e = absurd (true≢false (sym e))

module _ {A : Type 0} where
  pub mapped_at : {B : Type 0} (f : A → B) (xs : List A) (i : ℕ) (d : A) (e : B) → i < length xs → get_or (map f xs) i e ≡ f (get_or xs i d)
  mapped_at f [] i d e within = absurd (omega arith)
  mapped_at f (x ∷ xs) zero d e within = refl
  mapped_at f (x ∷ xs) (suc i) d e within = mapped_at f xs i d e (omega arith)

-- each of these rows has the meaning of its name
abbrev AreRight : List NameRow → Type 0
AreRight rows = map (λ (row : NameRow). control (row_name row)) rows ≡ map (λ (row : NameRow). Some row.1) rows

some_apart : {A : Type 0} (a : A) → Some a ≡ None → ⊥
some_apart a e = true≢false (ap is_some e)

heads : {A : Type 0} (x y : A) (xs ys : List A) → x ∷ xs ≡ y ∷ ys → x ≡ y
heads x y xs ys e = ap (λ l. get_or l 0 x) e

tails : {A : Type 0} (x y : A) (xs ys : List A) → x ∷ xs ≡ y ∷ ys → xs ≡ ys
tails x y xs ys e = ap (λ l. drop 1 l) e

-- what is found in right rows is what the name means
found_means : (rows : List NameRow) (name : List ℕ) (m : Meaning) → AreRight rows → in_rows rows name ≡ Some m → control name ≡ Some m
found_means [] name m right found = absurd (some_apart m (sym found))
found_means (row ∷ rows) name m right found = by_test (found_means rows name m (tails _ _ _ _ right)) (bytes_eq (row_name row) name) refl found
  where
    by_test : (in_rows rows name ≡ Some m → control name ≡ Some m) → (same : Bool) → bytes_eq (row_name row) name ≡ same → (if same then Some row.1 else in_rows rows name) ≡ Some m → control name ≡ Some m
    by_test later true same found = ap control (sym ((bytes_eq-Decides (row_name row) name).0 same)) ∙ heads _ _ _ _ right ∙ found
    by_test later false same found = later found

-- what an index has for a name is what the name means
module _ (rows : List NameRow) (starts : List ℕ) (name : List ℕ) where
  abbrev found_in : List ℕ → Option Meaning
  found_in n = in_rows (rows_in rows starts (slot_of n)) n

  none_means : found_in name ≡ None → (ms : List (List ℕ × Meaning)) → list_all (λ (e : List ℕ × Meaning). is_some (found_in e.0)) ms ≡ true → lookup (λ (n : List ℕ). bytes_eq name n) ms ≡ None
  none_means none [] all = refl
  none_means none (e ∷ ms) all = lookup_tail (λ (n : List ℕ). bytes_eq name n) e ms (false_from_ne_true _ (λ same. true≢false (sym (first _ _ all) ∙ ap (λ n. is_some (found_in n)) (sym ((bytes_eq-Decides name e.0).0 same)) ∙ ap is_some none))) ∙ none_means none ms (second _ _ all)

  part_right : (from count : ℕ) → AreRight rows → AreRight (take count (drop from rows))
  part_right from count right =
      sym (take-map (λ (row : NameRow). control (row_name row)) count (drop from rows))
      ∙ ap (take count) (sym (drop-map (λ (row : NameRow). control (row_name row)) from rows) ∙ ap (drop from) right ∙ drop-map (λ (row : NameRow). Some row.1) from rows)
      ∙ take-map (λ (row : NameRow). Some row.1) count (drop from rows)

  means_by : AreBuckets rows starts → (found : Option Meaning) → found_in name ≡ found → found ≡ control name
  unfolding control
  means_by index None e = sym (none_means e meanings index.whole)
  means_by index (Some m) e =
      let from = start_of starts (slot_of name) in
      sym (found_means (rows_in rows starts (slot_of name)) name m (part_right from (start_of starts (slot_of name + 1) - from) index.right) e)

  pub means : AreBuckets rows starts → found_in name ≡ control name
  means index = means_by index (found_in name) refl

all_at : (p : ℕ → Bool) (n a i : ℕ) → list_all p (range_with_len a n) ≡ true → i < n → p (a + i) ≡ true
all_at p zero a i h l = absurd (omega (arith, l))
all_at p (suc n) a zero h l = let e : a + 0 ≡ a = omega arith in ap p e ∙ first _ _ h
all_at p (suc n) a (suc i) h l = let e : a + suc i ≡ a + 1 + i = omega arith in ap p e ∙ all_at p n (a + 1) i (second _ _ h) (omega (arith, l))

slot_fits : (rows : List NameRow) (starts : List ℕ) (slot : ℕ) → AreBuckets rows starts → slot < slot_count → is_slot rows starts slot ≡ true
slot_fits rows starts slot index l = let e : slot ≡ 0 + slot = omega arith in ap (is_slot rows starts) e ∙ all_at (is_slot rows starts) slot_count 0 slot index.slots l

le_from : (a b : ℕ) → nat_le a b ≡ true → a ≤ b
le_from a b h = grind (arith, nat_tests, h)

pub slot_rises : (rows : List NameRow) (starts : List ℕ) (slot : ℕ) → AreBuckets rows starts → slot < slot_count → start_of starts slot ≤ start_of starts (slot + 1)
slot_rises rows starts slot index l = le_from _ _ (first _ _ (slot_fits rows starts slot index l))

pub slot_within : (rows : List NameRow) (starts : List ℕ) (slot : ℕ) → AreBuckets rows starts → slot < slot_count → start_of starts (slot + 1) ≤ length rows
slot_within rows starts slot index l = le_from _ _ (second _ _ (slot_fits rows starts slot index l))
