-- A macro is put under the number of its name.
use Rattle.std.proofs.Common.{◌≡◌, ℕ, zero, suc, ◌<◌, ◌≤◌, Bool, true, false, ◌⊎◌, inl, inr, List, [], ◌∷◌, ◌++◌, length, map, take, drop, set, refl, sym, ap, subst, ◌∙◌, arith, cond}
use Rattle.std.specs.Prelude.{Option, Some, None, Result, Ok, Err, OnErr, is_some, slice_get, ◌||◌}
use Rattle.std.specs.Borrow.{Bor}
use Rattle.std.specs.Option.{option_copied}
use Rattle.std.specs.List.{AllByRecursion, list_any}
use Rattle.std.specs.Str.{bytes_eq}
use Rattle.std.specs.Map.{keys_of}
use Rattle.std.specs.List.Sorted.{IsStrictlySortedBy}
use Rattle.std.specs.Cmp.Lexicographic.{slice_cmp}
use Rattle.std.specs.Ordering.{nat_cmp, is_eq, match_ordering}
use Rattle.std.specs.declared.cmp.Ordering.{Ordering}
use Rattle.std.specs.declared.cmp.Ordering.TheVariants.{Less, Equal, Greater}
use Rattle.std.proofs.lemmas.Bool.{false≢true, true≢false}
use Rattle.std.proofs.lemmas.List.{append-nil, append_assoc}
use Rattle.std.proofs.lemmas.Map.Text.{is_eq-slice_cmp}
use Rattle.std.proofs.lemmas.Slice.Eq.{bytes_eq-Decides}
use Rattle.mt_macro.specs.declared.table.Macro.{Macro}
use Rattle.mt_macro.specs.Table.{Table, macro_of, with_macro}
use Rattle.mt_macro.proofs.Entries.{sorted_with}
use Rattle.mt_macro.proofs.Named.{put_found}
use Rattle.mt_lexicon.specs.Meaning.{NameTable, IsDistinct}
use Rattle.mt_tables.specs.declared.kept.KeptMacro.{KeptMacro}
use Rattle.mt_tables.specs.inner.Places.{AreAfter, IsPlace}
use Rattle.mt_tables.specs.inner.KeptMacros.{macro_of_kept, macro_or_none, found_macro, kept_at, name_at, entry_of, table_of, IsKnownBody, AreMacros, Pads, Lists}
use Rattle.mt_tables.proofs.Growing.{some_is, one_number, name_there, apart}
use Rattle.mt_tables.proofs.Searching.{compare, IsSorted, all_after}

abbrev pub Macros : Type 0
Macros = List (Option KeptMacro)

-- places at which nothing is kept
none_at : (more : Macros) → AllByRecursion (λ k. k ≡ None) more → (n : ℕ) → kept_at more n ≡ None
none_at [] h n = refl
none_at (k ∷ more) h zero = h.0
none_at (k ∷ more) h (suc n) = none_at more h.1 n

padded_at : (old more : Macros) → AllByRecursion (λ k. k ≡ None) more → (n : ℕ) → kept_at (old ++ more) n ≡ kept_at old n
padded_at [] more h n = none_at more h n
padded_at (k ∷ old) more h zero = refl
padded_at (k ∷ old) more h (suc n) = padded_at old more h n

pub pads_none : (old : Macros) → Pads old old
pads_none old = ([], sym (append-nil old), tt)

all_more : (more : Macros) → AllByRecursion (λ k. k ≡ None) more → AllByRecursion (λ k. k ≡ None) (more ++ None ∷ [])
all_more [] h = (refl, tt)
all_more (k ∷ more) h = (h.0, all_more more h.1)

pub pads_more : (old mid new : Macros) → Pads old mid → new ≡ mid ++ None ∷ [] → Pads old new
pads_more old mid new p e = (p.0 ++ None ∷ [], e ∙ ap (λ ks. ks ++ None ∷ []) p.1 ∙ append_assoc old p.0 (None ∷ []), all_more p.0 p.2)

none_known : (names : NameTable) (k : Option KeptMacro) → k ≡ None → IsKnownBody names k
none_known names None e = tt
none_known names (Some k) e = absurd (cc)

known_more : (names : NameTable) (old more : Macros) → AllByRecursion (IsKnownBody names) old → AllByRecursion (λ k. k ≡ None) more → AllByRecursion (IsKnownBody names) (old ++ more)
known_more names [] [] h n = tt
known_more names [] (k ∷ more) h n = (none_known names k n.0, known_more names [] more tt n.1)
known_more names (k ∷ old) more h n = (h.0, known_more names old more h.1 n)

entry_same : (names : NameTable) (ks ks' : Macros) (n : ℕ) → kept_at ks' n ≡ kept_at ks n → entry_of names ks' n ≡ entry_of names ks n
entry_same names ks ks' n e = ap (λ k. (name_at names n, macro_or_none names k)) e

table_same : (names : NameTable) (ks ks' : Macros) → ((n : ℕ) → kept_at ks' n ≡ kept_at ks n) → (order : List ℕ) → table_of names ks' order ≡ table_of names ks order
table_same names ks ks' same [] = refl
table_same names ks ks' same (n ∷ order) = ap (λ e. e ∷ table_of names ks' order) (entry_same names ks ks' n (same n)) ∙ ap (λ t. entry_of names ks n ∷ t) (table_same names ks ks' same order)

pads_at : (old new : Macros) → Pads old new → (n : ℕ) → kept_at new n ≡ kept_at old n
pads_at old new p n = ap (λ ks. kept_at ks n) p.1 ∙ padded_at old p.0 p.2 n

pub pads_table : (names : NameTable) (old new : Macros) (order : List ℕ) → Pads old new → table_of names new order ≡ table_of names old order
pads_table names old new order p = table_same names old new (pads_at old new p) order

pub pads_kept : (names : NameTable) (old new : Macros) (order : List ℕ) → Pads old new → length new ≤ length names → AreMacros names old order → AreMacros names new order
pads_kept names old new order p l h =
    let same = pads_table names old new order p in
    record {
      distinct = h.distinct;
      within = l;
      known = subst (AllByRecursion (IsKnownBody names)) (sym p.1) (known_more names old p.0 h.known p.2);
      listed = h.listed;
      sorted = subst (λ (t : Table). IsStrictlySortedBy (slice_cmp nat_cmp) (keys_of t)) (sym same) h.sorted;
      found = λ n name e. ap (λ t. macro_of t name) same ∙ (h.found n name e ∙ ap (found_macro names) (sym (pads_at old new p n)));
    }

-- one macro is set
set_here : (ks : Macros) (n : ℕ) (x : Option KeptMacro) → n < length ks → kept_at (set ks n x) n ≡ x
set_here [] n x h = absurd (omega (arith, h))
set_here (k ∷ ks) zero x h = refl
set_here (k ∷ ks) (suc n) x h = set_here ks n x (omega (arith, h))

set_other : (ks : Macros) (n j : ℕ) (x : Option KeptMacro) → (j ≡ n → ⊥) → kept_at (set ks n x) j ≡ kept_at ks j
set_other [] n j x h = refl
set_other (k ∷ ks) zero zero x h = absurd (h refl)
set_other (k ∷ ks) zero (suc j) x h = refl
set_other (k ∷ ks) (suc n) zero x h = refl
set_other (k ∷ ks) (suc n) (suc j) x h = set_other ks n j x (λ e. h (ap suc e))

set_known : (names : NameTable) (ks : Macros) (n : ℕ) (x : Option KeptMacro) → IsKnownBody names x → AllByRecursion (IsKnownBody names) ks → AllByRecursion (IsKnownBody names) (set ks n x)
set_known names [] n x k h = tt
set_known names (y ∷ ks) zero x k h = (k, h.1)
set_known names (y ∷ ks) (suc n) x k h = (h.0, set_known names ks n x k h.1)

set_size : (ks : Macros) (n : ℕ) (x : Option KeptMacro) → length (set ks n x) ≡ length ks
set_size [] n x = refl
set_size (k ∷ ks) zero x = refl
set_size (k ∷ ks) (suc n) x = ap suc (set_size ks n x)

-- names that are compared
pub test_of : (name n : List ℕ) (r : Ordering) → compare name n ≡ r → bytes_eq name n ≡ is_eq r
test_of name n r e = sym (is_eq-slice_cmp name n) ∙ ap is_eq e

itself : (name : List ℕ) (r : Ordering) → compare name name ≡ r → is_eq r ≡ false → ⊥
itself name r e f = true≢false (sym ((bytes_eq-Decides name name).1 refl) ∙ (test_of name name r e ∙ f))

after_none : (names : NameTable) (ks : Macros) (order : List ℕ) (name : List ℕ) → AreAfter name (map (name_at names) order) → macro_of (table_of names ks order) name ≡ None
after_none names ks [] name h = refl
after_none names ks (j ∷ order) name h =
    ap (λ b. cond b (Some (macro_or_none names (kept_at ks j))) (macro_of (table_of names ks order) name)) (test_of name (name_at names j) Less h.0) ∙ after_none names ks order name h.1

pub placed : (e : List ℕ × Macro) (t : Table) (name : List ℕ) (m : Macro) (r : Ordering) → compare name e.0 ≡ r
    → with_macro (e ∷ t) name m ≡ match_ordering r ((name, m) ∷ e ∷ t) ((e.0, m) ∷ t) (e ∷ with_macro t name m)
placed e t name m r h = ap (λ (q : Ordering). match_ordering q ((name, m) ∷ e ∷ t) ((e.0, m) ∷ t) (e ∷ with_macro t name m)) h

none_any_at : (name k : List ℕ) (m : Macro) (o : Option Macro) (b : Bool) (others : Bool) → bytes_eq name k ≡ b → cond b (Some m) o ≡ None → (o ≡ None → others ≡ false) → (b || others) ≡ false
none_any_at name k m o true others e h f = absurd (cc)
none_any_at name k m o false others e h f = f h

-- a name without macro is not listed
pub none_any : (names : NameTable) (ks : Macros) (order : List ℕ) (name : List ℕ) → macro_of (table_of names ks order) name ≡ None → list_any (bytes_eq name) (map (name_at names) order) ≡ false
none_any names ks [] name h = refl
none_any names ks (j ∷ order) name h = none_any_at name (name_at names j) _ (macro_of (table_of names ks order) name) (bytes_eq name (name_at names j)) _ refl h (none_any names ks order name)

pub keys_are : (names : NameTable) (ks : Macros) (order : List ℕ) → keys_of (table_of names ks order) ≡ map (name_at names) order
keys_are names ks [] = refl
keys_are names ks (j ∷ order) = ap (λ l. name_at names j ∷ l) (keys_are names ks order)

-- the macros of other names stay
module _ (names : NameTable) (ks ks' : Macros) (n : ℕ) (m : Macro) (distinct : IsDistinct names) (within : n < length names) (here : macro_or_none names (kept_at ks' n) ≡ m) (other : (j : ℕ) → (j ≡ n → ⊥) → kept_at ks' j ≡ kept_at ks j) where
  abbrev name : List ℕ
  name = name_at names n

  not_same : (j : ℕ) (r : Ordering) → compare name (name_at names j) ≡ r → is_eq r ≡ false → j ≡ n → ⊥
  not_same j r e f s = itself name r (ap (λ (i : ℕ). compare name (name_at names i)) (sym s) ∙ e) f

  others_same : (order : List ℕ) → AllByRecursion (λ j. j ≡ n → ⊥) order → table_of names ks' order ≡ table_of names ks order
  others_same [] h = refl
  others_same (j ∷ order) h = ap (λ e. e ∷ table_of names ks' order) (entry_same names ks ks' j (other j h.0)) ∙ ap (λ t. entry_of names ks j ∷ t) (others_same order h.1)

  after_other : (order : List ℕ) → AreAfter name (map (name_at names) order) → AllByRecursion (λ j. j ≡ n → ⊥) order
  after_other [] h = tt
  after_other (j ∷ order) h = (not_same j Less h.0 refl, after_other order h.1)

  below_other : (k : List ℕ) (order : List ℕ) → k ≡ name → AllByRecursion (λ y. compare k y ≡ Less) (map (name_at names) order) → AllByRecursion (λ j. j ≡ n → ⊥) order
  below_other k [] e h = tt
  below_other k (j ∷ order) e h = (not_same j Less (ap (λ (x : List ℕ). compare x (name_at names j)) (sym e) ∙ h.0) refl, below_other k order e h.1)

  after_below : (k : List ℕ) (order : List ℕ) → compare name k ≡ Less → AllByRecursion (λ y. compare k y ≡ Less) (map (name_at names) order) → AreAfter name (map (name_at names) order)
  after_below k order l h = all_after k name (map (name_at names) order) l h

  there_at : (j : ℕ) (order : List ℕ) (r : Ordering) → compare name (name_at names j) ≡ r → j < length names → AllByRecursion (λ y. compare (name_at names j) y ≡ Less) (map (name_at names) order)
      → is_some (macro_of (table_of names ks (j ∷ order)) name) ≡ true → (is_some (macro_of (table_of names ks order) name) ≡ true → table_of names ks' order ≡ with_macro (table_of names ks order) name m)
      → table_of names ks' (j ∷ order) ≡ with_macro (table_of names ks (j ∷ order)) name m
  there_at j order Less e l below some more =
      absurd (false≢true (sym (ap is_some (ap (λ b. cond b (Some (macro_or_none names (kept_at ks j))) (macro_of (table_of names ks order) name)) (test_of name (name_at names j) Less e) ∙ after_none names ks order name (after_below (name_at names j) order e below))) ∙ some))
  there_at j order Equal e l below some more =
      let equal : name ≡ name_at names j = (bytes_eq-Decides name (name_at names j)).0 (test_of name (name_at names j) Equal e) in
      let same : j ≡ n = one_number names j n name distinct (name_there names j l ∙ ap Some (sym equal)) (name_there names n within) in
      let entry : entry_of names ks' j ≡ (name_at names j, m) = ap (λ (x : Macro). (name_at names j, x)) (ap (λ (i : ℕ). macro_or_none names (kept_at ks' i)) same ∙ here) in
      ap (λ x. x ∷ table_of names ks' order) entry ∙ (ap (λ t. (name_at names j, m) ∷ t) (others_same order (below_other (name_at names j) order (sym equal) below)) ∙ sym (placed (entry_of names ks j) (table_of names ks order) name m Equal e))
  there_at j order Greater e l below some more =
      let rest : macro_of (table_of names ks (j ∷ order)) name ≡ macro_of (table_of names ks order) name = ap (λ b. cond b (Some (macro_or_none names (kept_at ks j))) (macro_of (table_of names ks order) name)) (test_of name (name_at names j) Greater e) in
      ap (λ x. x ∷ table_of names ks' order) (entry_same names ks ks' j (other j (not_same j Greater e refl)))
      ∙ (ap (λ t. entry_of names ks j ∷ t) (more (sym (ap is_some rest) ∙ some)) ∙ sym (placed (entry_of names ks j) (table_of names ks order) name m Greater e))

  -- in place of an older macro
  pub there : (order : List ℕ) → AllByRecursion (λ j. j < length names) order → IsSorted (map (name_at names) order) → is_some (macro_of (table_of names ks order) name) ≡ true → table_of names ks' order ≡ with_macro (table_of names ks order) name m
  unfolding IsStrictlySortedBy
  there [] l s some = absurd (false≢true some)
  there (j ∷ order) l s some = there_at j order (compare name (name_at names j)) refl l.0 s.0 some (there order l.1 s.1)

  here_entry : entry_of names ks' n ≡ (name, m)
  here_entry = ap (λ (x : Macro). (name, x)) here

  before_all : (order : List ℕ) → AreAfter name (map (name_at names) order) → (name, m) ∷ table_of names ks order ≡ with_macro (table_of names ks order) name m
  before_all [] h = refl
  before_all (j ∷ order) h = sym (placed (entry_of names ks j) (table_of names ks order) name m Less h.0)

  -- at the place of its name
  pub new : (order : List ℕ) (place : ℕ) → IsPlace name (map (name_at names) order) place → table_of names ks' (take place order ++ n ∷ drop place order) ≡ with_macro (table_of names ks order) name m
  new order zero h =
      ap (λ x. x ∷ table_of names ks' order) here_entry ∙ (ap (λ t. (name, m) ∷ t) (others_same order (after_other order h)) ∙ before_all order h)
  new [] (suc place) h = absurd h
  new (j ∷ order) (suc place) h =
      ap (λ x. x ∷ table_of names ks' (take place order ++ n ∷ drop place order)) (entry_same names ks ks' j (other j (not_same j Greater h.0 refl)))
      ∙ (ap (λ t. entry_of names ks j ∷ t) (new order place h.1) ∙ sym (placed (entry_of names ks j) (table_of names ks order) name m Greater h.0))

same_or_not : (a b : ℕ) → (a ≡ b) ⊎ (a ≡ b → ⊥)
same_or_not zero zero = inl refl
same_or_not zero (suc b) = inr (λ e. omega (arith, e))
same_or_not (suc a) zero = inr (λ e. omega (arith, e))
same_or_not (suc a) (suc b) = elim (same_or_not a b) [ inl e ↦ inl (ap suc e) | inr h ↦ inr (λ e. h (omega (arith, e))) ]

insert_listed : (P : ℕ → Type 0) (order : List ℕ) (place n : ℕ) → P n → AllByRecursion P order → AllByRecursion P (take place order ++ n ∷ drop place order)
insert_listed P order zero n p h = (p, h)
insert_listed P [] (suc place) n p h = (p, tt)
insert_listed P (j ∷ order) (suc place) n p h = (h.0, insert_listed P order place n p h.1)

some_none : {X : Type 0} (x : X) (b : Bool) (o : Option X) → o ≡ Some x → is_some o ≡ true
some_none x b o e = ap is_some e

-- what a put makes of the table
put_by : (names : NameTable) (ks : Macros) (order order' : List ℕ) (n : ℕ) (k : KeptMacro) (o : Option KeptMacro) → kept_at ks n ≡ o → AreMacros names ks order → n < length names → n < length ks → Lists names o order order' n
    → table_of names (set ks n (Some k)) order' ≡ with_macro (table_of names ks order) (name_at names n) (macro_of_kept names k)
put_by names ks order order' n k (Some old) e h w l is =
    let some : is_some (macro_of (table_of names ks order) (name_at names n)) ≡ true = ap is_some (h.found n (name_at names n) (name_there names n w) ∙ ap (found_macro names) e) in
    ap (table_of names (set ks n (Some k))) is
    ∙ there names ks (set ks n (Some k)) n (macro_of_kept names k) h.distinct w (ap (macro_or_none names) (set_here ks n (Some k) l)) (λ j d. set_other ks n j (Some k) d) order h.listed
    (subst IsSorted (keys_are names ks order) h.sorted) some
put_by names ks order order' n k None e h w l is =
    ap (table_of names (set ks n (Some k))) is.2
    ∙ new names ks (set ks n (Some k)) n (macro_of_kept names k) h.distinct w (ap (macro_or_none names) (set_here ks n (Some k) l)) (λ j d. set_other ks n j (Some k) d) order is.0 is.1

pub put_is : (names : NameTable) (ks : Macros) (order order' : List ℕ) (n : ℕ) (k : KeptMacro) → AreMacros names ks order → n < length names → n < length ks → Lists names (kept_at ks n) order order' n
    → table_of names (set ks n (Some k)) order' ≡ with_macro (table_of names ks order) (name_at names n) (macro_of_kept names k)
put_is names ks order order' n k h w l is = put_by names ks order order' n k (kept_at ks n) refl h w l is

listed_by : (names : NameTable) (o : Option KeptMacro) (order order' : List ℕ) (n : ℕ) → n < length names → AllByRecursion (λ j. j < length names) order → Lists names o order order' n → AllByRecursion (λ j. j < length names) order'
listed_by names (Some k) order order' n w h is = subst (AllByRecursion (λ j. j < length names)) (sym is) h
listed_by names None order order' n w h is = subst (AllByRecursion (λ j. j < length names)) (sym is.2) (insert_listed (λ j. j < length names) order is.0 n w h)

found_by : (names : NameTable) (ks : Macros) (order : List ℕ) (t : Table) (n : ℕ) (k : KeptMacro) → AreMacros names ks order → n < length names → n < length ks → t ≡ with_macro (table_of names ks order) (name_at names n) (macro_of_kept names k)
    → (j : ℕ) (other : List ℕ) → slice_get names j ≡ Some other → macro_of t other ≡ found_macro names (kept_at (set ks n (Some k)) j)
found_by names ks order t n k h w l is j other e =
    let has : macro_of t other ≡ cond (bytes_eq other (name_at names n)) (Some (macro_of_kept names k)) (macro_of (table_of names ks order) other) =
    ap (λ (x : Table). macro_of x other) is ∙ put_found (table_of names ks order) (name_at names n) (macro_of_kept names k) other in
    elim (same_or_not j n) [
      | inl s ↦
          let equal : other ≡ name_at names n = some_is other (name_at names n) (sym e ∙ (ap (slice_get names) s ∙ name_there names n w)) in
          has ∙ (ap (λ b. cond b (Some (macro_of_kept names k)) (macro_of (table_of names ks order) other)) ((bytes_eq-Decides other (name_at names n)).1 equal)
          ∙ sym (ap (λ i. found_macro names (kept_at (set ks n (Some k)) i)) s ∙ ap (found_macro names) (set_here ks n (Some k) l)))
      | inr d ↦
          has ∙ (ap (λ b. cond b (Some (macro_of_kept names k)) (macro_of (table_of names ks order) other)) (apart names j n other _ h.distinct e w d refl)
          ∙ (h.found j other e ∙ ap (found_macro names) (sym (set_other ks n j (Some k) d))))
    ]

pub put_kept : (names : NameTable) (ks : Macros) (order order' : List ℕ) (n : ℕ) (k : KeptMacro) → AreMacros names ks order → n < length names → n < length ks → IsKnownBody names (Some k) → Lists names (kept_at ks n) order order' n
    → AreMacros names (set ks n (Some k)) order'
put_kept names ks order order' n k h w l known is =
    let table = put_is names ks order order' n k h w l is in
    record {
      distinct = h.distinct;
      within = omega (arith, set_size ks n (Some k), h.within);
      known = set_known names ks n (Some k) known h.known;
      listed = listed_by names (kept_at ks n) order order' n w h.listed is;
      sorted = subst (λ (t : Table). IsStrictlySortedBy (slice_cmp nat_cmp) (keys_of t)) (sym table) (sorted_with (table_of names ks order) (name_at names n) (macro_of_kept names k) h.sorted);
      found = found_by names ks order _ n k h w l table;
    }

copied_none : {X : Type 0} (o : Option (Bor X)) → is_some o ≡ false → option_copied o ≡ None
copied_none None e = refl
copied_none (Some x) e = absurd (true≢false e)

-- a name at whose number nothing is kept is not listed
pub not_listed : (names : NameTable) (ks : Macros) (order : List ℕ) (n : ℕ) (o : Option (Bor KeptMacro)) → AreMacros names ks order → n < length names → option_copied o ≡ kept_at ks n → is_some o ≡ false
    → list_any (bytes_eq (name_at names n)) (map (name_at names) order) ≡ false
not_listed names ks order n o h w e f =
    none_any names ks order (name_at names n) (h.found n (name_at names n) (name_there names n w) ∙ ap (found_macro names) (sym e ∙ copied_none o f))

pub listed_sorted : (names : NameTable) (ks : Macros) (order : List ℕ) → AreMacros names ks order → IsSorted (map (name_at names) order)
listed_sorted names ks order h = subst IsSorted (keys_are names ks order) h.sorted

pub on_err : {A E P : Type 0} (r : Result A E) → P → OnErr r P
on_err (Ok x) p = tt
on_err (Err e) p = p
