-- Entries in the names' order.
use Rattle.std.proofs.Common.{◌≡◌, ℕ, zero, suc, ◌+◌, ◌<◌, ◌≤◌, List, [], ◌∷◌, ◌++◌, length, take, drop, get_or, set, refl, sym, ap, subst, ◌∙◌, arith, cond}
use Rattle.std.specs.Prelude.{Option, Some, None, All, slice_get}
use Rattle.std.specs.Str.{bytes_eq}
use Rattle.std.specs.List.{AllByRecursion}
use Rattle.std.specs.Map.{keys_of, values_of}
use Rattle.std.specs.List.Sorted.{IsStrictlySortedBy}
use Rattle.std.specs.Cmp.Lexicographic.{slice_cmp}
use Rattle.std.specs.Ordering.{nat_cmp, is_eq, match_ordering, ordering_reverse}
use Rattle.std.specs.declared.cmp.Ordering.{Ordering}
use Rattle.std.specs.declared.cmp.Ordering.TheVariants.{Less, Equal, Greater}
use Rattle.std.proofs.lemmas.Cmp.{nat_list_cmp_total}
use Rattle.std.proofs.lemmas.Map.Text.{is_eq-slice_cmp}
use Rattle.std.proofs.lemmas.Map.Views.{All-after_first}
use Rattle.std.proofs.lemmas.Map.Keys.{sorted_tail}
use Rattle.mt_macro.specs.declared.table.Macro.{Macro}
use Rattle.mt_macro.specs.declared.table.Entry.{Entry}
use Rattle.mt_macro.specs.Table.{Table, macro_of, with_macro}
use Rattle.mt_macro.specs.inner.Entries.{table_of, body_at, HasAt, IsFoundAt, AreAfter, IsMissingAt}
use Rattle.mt_macro.specs.inner.Kept.{HasShortBody}
use Rattle.mt_macro.specs.Naming.{IsMacro}

abbrev pub compare : List ℕ → List ℕ → Ordering
compare a b = slice_cmp nat_cmp a b

abbrev pub IsSorted : List Entry → Type 0
IsSorted es = IsStrictlySortedBy (slice_cmp nat_cmp) (keys_of (table_of es))

turned : (a b : List ℕ) (r : Ordering) → compare a b ≡ r → compare b a ≡ ordering_reverse r
turned a b r e = nat_list_cmp_total.antisymm b a ∙ ap ordering_reverse e

-- a name that is after another is after those before it
above_below : (a b name : List ℕ) → compare a b ≡ Less → compare name b ≡ Greater → compare name a ≡ Greater
above_below a b name h g = turned a name Less (nat_list_cmp_total.trans a b name h (turned name b Greater g))

above_same : (a b name : List ℕ) → compare a b ≡ Less → compare name b ≡ Equal → compare name a ≡ Greater
above_same a b name h e = nat_list_cmp_total.congr name b a e ∙ turned a b Less h

-- the first entries are before a name
abbrev pub AreBefore : ℕ → List ℕ → List Entry → Type 0
AreBefore zero name es = Unit {0}
AreBefore (suc n) name [] = Unit {0}
AreBefore (suc n) name (e ∷ es) = (compare name e.name ≡ Greater) × AreBefore n name es

-- the entries from an index on are after a name
abbrev pub AreFrom : ℕ → List ℕ → List Entry → Type 0
AreFrom zero name es = AreAfter (table_of es) name
AreFrom (suc n) name [] = Unit {0}
AreFrom (suc n) name (e ∷ es) = AreFrom n name es

pub record Searching (es : List Entry) (name : List ℕ) (low high : ℕ) : Type 0 where
  pub order : low ≤ high
  pub fits : high ≤ length es
  pub before : AreBefore low name es
  pub after : AreFrom high name es

none_from : (es : List Entry) (name : List ℕ) → AreFrom (length es) name es
none_from [] name = tt
none_from (e ∷ es) name = none_from es name

pub searching_start : (es : List Entry) (name : List ℕ) → Searching es name 0 (length es)
searching_start es name = record { order = omega arith; fits = omega arith; before = tt; after = none_from es name }

name_at : (es : List Entry) (i : ℕ) (e : Entry) → i < length es → e ≡ get_or es i e → (i < length (keys_of (table_of es))) × (get_or (keys_of (table_of es)) i e.name ≡ e.name)
name_at [] i e h k = absurd (omega (arith, h))
name_at (x ∷ xs) zero e h k = (omega arith, ap (λ (y : Entry). y.name) (sym k))
name_at (x ∷ xs) (suc i) e h k = let r = name_at xs i e (omega (arith, h)) k in (omega (arith, r.0), r.1)

-- the first name is before that of an entry further on
first_below : (x : Entry) (xs : List Entry) (i : ℕ) (e : Entry) → IsSorted (x ∷ xs) → i < length xs → e ≡ get_or xs i e → compare x.name e.name ≡ Less
first_below x xs i e s h k =
    let n = name_at xs i e h k in
    ap (λ (n : List ℕ). compare x.name n) (sym n.1) ∙ All-after_first (slice_cmp nat_cmp) x.name (keys_of (table_of xs)) s i e.name n.0

before_by : (es : List Entry) (name : List ℕ) (i : ℕ) (e : Entry) → IsSorted es → i < length es → e ≡ get_or es i e → compare name e.name ≡ Greater → AreBefore (suc i) name es
before_by [] name i e s h k g = tt
before_by (x ∷ xs) name zero e s h k g = (ap (λ (y : Entry). compare name y.name) (sym k) ∙ g, tt)
before_by (x ∷ xs) name (suc i) e s h k g = (
  above_below x.name e.name name (first_below x xs i e s (omega (arith, h)) k) g,
  before_by xs name i e (sorted_tail (slice_cmp nat_cmp) x.name (keys_of (table_of xs)) s) (omega (arith, h)) k g,
)

all_after : (x : Entry) (xs : List Entry) (name : List ℕ) → compare name x.name ≡ Less → ((i : ℕ) (e : Entry) → i < length xs → e ≡ get_or xs i e → compare x.name e.name ≡ Less) → AreAfter (table_of xs) name
all_after x [] name l h = tt
all_after x (y ∷ ys) name l h =
    (nat_list_cmp_total.trans name x.name y.name l (h 0 y (omega arith) refl), all_after x ys name l (λ i e k g. h (suc i) e (omega (arith, k)) g))

after_by : (es : List Entry) (name : List ℕ) (i : ℕ) (e : Entry) → IsSorted es → i < length es → e ≡ get_or es i e → compare name e.name ≡ Less → AreFrom i name es
after_by [] name i e s h k l = absurd (omega (arith, h))
after_by (x ∷ xs) name zero e s h k l =
    let m : compare name x.name ≡ Less = ap (λ (y : Entry). compare name y.name) (sym k) ∙ l in
    (m, all_after x xs name m (λ i f u v. first_below x xs i f s u v))
after_by (x ∷ xs) name (suc i) e s h k l = after_by xs name i e (sorted_tail (slice_cmp nat_cmp) x.name (keys_of (table_of xs)) s) (omega (arith, h)) k l

pub searching_above : (es : List Entry) (name : List ℕ) (low high i n : ℕ) (e : Entry) → Searching es name low high → IsSorted es → i < high → e ≡ get_or es i e → compare name e.name ≡ Greater → n ≡ i + 1
    → Searching es name n high
searching_above es name low high i n e g s h k c z = record {
  order = omega (arith, h, z);
  fits = g.fits;
  before = subst (λ (m : ℕ). AreBefore m name es) (let y : suc i ≡ n = omega (arith, z) in y) (before_by es name i e s (omega (arith, h, g.fits)) k c);
  after = g.after;
}

pub searching_below : (es : List Entry) (name : List ℕ) (low high i : ℕ) (e : Entry) → Searching es name low high → IsSorted es → low ≤ i → i < high → e ≡ get_or es i e → compare name e.name ≡ Less
    → Searching es name low i
searching_below es name low high i e g s l h k c = record {
  order = l;
  fits = omega (arith, h, g.fits);
  before = g.before;
  after = after_by es name i e s (omega (arith, h, g.fits)) k c;
}

pub found_by : (es : List Entry) (name : List ℕ) (i : ℕ) (e : Entry) → IsSorted es → i < length es → e ≡ get_or es i e → compare name e.name ≡ Equal → IsFoundAt (table_of es) name i
found_by [] name i e s h k c = absurd (omega (arith, h))
found_by (x ∷ xs) name zero e s h k c = ap (λ (y : Entry). compare name y.name) (sym k) ∙ c
found_by (x ∷ xs) name (suc i) e s h k c = (
  above_same x.name e.name name (first_below x xs i e s (omega (arith, h)) k) c,
  found_by xs name i e (sorted_tail (slice_cmp nat_cmp) x.name (keys_of (table_of xs)) s) (omega (arith, h)) k c,
)

missing_by : (es : List Entry) (name : List ℕ) (i : ℕ) → i ≤ length es → AreBefore i name es → AreFrom i name es → IsMissingAt (table_of es) name i
missing_by es name zero h b a = a
missing_by [] name (suc i) h b a = absurd (omega (arith, h))
missing_by (e ∷ es) name (suc i) h b a = (b.0, missing_by es name i (omega (arith, h)) b.1 a)

pub searching_end : (es : List Entry) (name : List ℕ) (low high : ℕ) → Searching es name low high → high ≤ low → IsMissingAt (table_of es) name low
searching_end es name low high g h =
    missing_by es name low (omega (arith, g.order, g.fits)) g.before (subst (λ (m : ℕ). AreFrom m name es) (let y : high ≡ low = omega (arith, g.order, h) in y) g.after)

-- what is under a name
test_of : (name n : List ℕ) (r : Ordering) → compare name n ≡ r → bytes_eq name n ≡ is_eq r
test_of name n r e = sym (is_eq-slice_cmp name n) ∙ ap is_eq e

pub found_has : (t : Table) (name : List ℕ) (i : ℕ) → IsFoundAt t name i → HasAt t i (macro_of t name)
found_has [] name i h = absurd h
found_has (e ∷ es) name zero h = ap (λ b. cond b (Some e.1) (macro_of es name)) (test_of name e.0 Equal h)
found_has (e ∷ es) name (suc i) h =
    subst (λ (o : Option Macro). HasAt es i o) (sym (ap (λ b. cond b (Some e.1) (macro_of es name)) (test_of name e.0 Greater h.0))) (found_has es name i h.1)

after_none : (t : Table) (name : List ℕ) → AreAfter t name → macro_of t name ≡ None
after_none [] name h = refl
after_none (e ∷ es) name h = ap (λ b. cond b (Some e.1) (macro_of es name)) (test_of name e.0 Less h.0) ∙ after_none es name h.1

pub missing_none : (t : Table) (name : List ℕ) (i : ℕ) → IsMissingAt t name i → macro_of t name ≡ None
missing_none t name zero h = after_none t name h
missing_none [] name (suc i) h = absurd h
missing_none (e ∷ es) name (suc i) h =
    ap (λ b. cond b (Some e.1) (macro_of es name)) (test_of name e.0 Greater h.0) ∙ missing_none es name i h.1

pub has_within : (es : List Entry) (i : ℕ) (o : Option Macro) → HasAt (table_of es) i o → i < length es
has_within [] i o h = absurd h
has_within (e ∷ es) zero o h = omega arith
has_within (e ∷ es) (suc i) o h = let r = has_within es i o h in omega (arith, r)

pub has_entry : (es : List Entry) (i : ℕ) (o : Option Macro) (e : Entry) → HasAt (table_of es) i o → e ≡ get_or es i e → o ≡ Some e.meaning
has_entry [] i o e h k = absurd h
has_entry (x ∷ xs) zero o e h k = h ∙ ap (λ (y : Entry). Some y.meaning) (sym k)
has_entry (x ∷ xs) (suc i) o e h k = has_entry xs i o e h k

pub has_macro : (es : List Entry) (i : ℕ) (o : Option Macro) (e : Entry) → HasAt (table_of es) i o → e ≡ get_or es i e → IsMacro o e.meaning.params (body_at (table_of es) i)
has_macro [] i o e h k = absurd h
has_macro (x ∷ xs) zero o e h k =
    subst (λ (p : Option Macro). IsMacro p e.meaning.params x.meaning.body) (sym h) (ap (λ (y : Entry). y.meaning.params) (sym k), refl)
has_macro (x ∷ xs) (suc i) o e h k = has_macro xs i o e h k

pub body_of : (es : List Entry) (i : ℕ) (e : Entry) → i < length es → e ≡ get_or es i e → body_at (table_of es) i ≡ e.meaning.body
body_of [] i e h k = absurd (omega (arith, h))
body_of (x ∷ xs) zero e h k = ap (λ (y : Entry). y.meaning.body) (sym k)
body_of (x ∷ xs) (suc i) e h k = body_of xs i e (omega (arith, h)) k

pub no_body : (es : List Entry) (i : ℕ) → length es ≤ i → body_at (table_of es) i ≡ []
no_body [] i h = refl
no_body (x ∷ xs) zero h = absurd (omega (arith, h))
no_body (x ∷ xs) (suc i) h = no_body xs i (omega (arith, h))

pub short_entry : (es : List Entry) (i : ℕ) (e : Entry) → All HasShortBody (values_of (table_of es)) → i < length es → e ≡ get_or es i e → HasShortBody e.meaning
short_entry [] i e a h k = absurd (omega (arith, h))
short_entry (x ∷ xs) zero e a h k = subst (λ (y : Entry). HasShortBody y.meaning) (sym k) (a 0 x.meaning (omega arith))
short_entry (x ∷ xs) (suc i) e a h k = short_entry xs i e (λ n d l. a (suc n) d (omega (arith, l))) (omega (arith, h)) k

-- entries with a macro under a name
placed : (e : List ℕ × Macro) (t : Table) (name : List ℕ) (m : Macro) (r : Ordering) → compare name e.0 ≡ r
    → with_macro (e ∷ t) name m ≡ match_ordering r ((name, m) ∷ e ∷ t) ((e.0, m) ∷ t) (e ∷ with_macro t name m)
placed e t name m r h = ap (λ (q : Ordering). match_ordering q ((name, m) ∷ e ∷ t) ((e.0, m) ∷ t) (e ∷ with_macro t name m)) h

pub set_is : (es : List Entry) (name : List ℕ) (m : Macro) (i : ℕ) (e f : Entry) → IsFoundAt (table_of es) name i → e ≡ get_or es i e → f.name ≡ e.name → f.meaning ≡ m
    → table_of (set es i f) ≡ with_macro (table_of es) name m
set_is [] name m i e f h k n v = absurd h
set_is (x ∷ xs) name m zero e f h k n v =
    ap (λ (y : List ℕ). (y, f.meaning) ∷ table_of xs) (n ∙ ap (λ (y : Entry). y.name) k) ∙ (ap (λ (y : Macro). (x.name, y) ∷ table_of xs) v ∙ sym (placed (x.name, x.meaning) (table_of xs) name m Equal h))
set_is (x ∷ xs) name m (suc i) e f h k n v =
    ap (λ (t : Table). (x.name, x.meaning) ∷ t) (set_is xs name m i e f h.1 k n v) ∙ sym (placed (x.name, x.meaning) (table_of xs) name m Greater h.0)

insert_first : (es : List Entry) (name : List ℕ) (m : Macro) → AreAfter (table_of es) name → (name, m) ∷ table_of es ≡ with_macro (table_of es) name m
insert_first [] name m h = refl
insert_first (x ∷ xs) name m h = sym (placed (x.name, x.meaning) (table_of xs) name m Less h.0)

pub insert_is : (es : List Entry) (name : List ℕ) (m : Macro) (i : ℕ) (f : Entry) → IsMissingAt (table_of es) name i → f.name ≡ name → f.meaning ≡ m
    → table_of (take i es ++ f ∷ drop i es) ≡ with_macro (table_of es) name m
insert_is es name m zero f h n v =
    ap (λ (y : List ℕ). (y, f.meaning) ∷ table_of es) n ∙ (ap (λ (y : Macro). (name, y) ∷ table_of es) v ∙ insert_first es name m h)
insert_is [] name m (suc i) f h n v = absurd h
insert_is (x ∷ xs) name m (suc i) f h n v =
    ap (λ (t : Table). (x.name, x.meaning) ∷ t) (insert_is xs name m i f h.1 n v) ∙ sym (placed (x.name, x.meaning) (table_of xs) name m Greater h.0)

-- the names in their order, with one more
all_less : (name k : List ℕ) (ks : List (List ℕ)) → compare name k ≡ Less → AllByRecursion (λ y. compare k y ≡ Less) ks → AllByRecursion (λ y. compare name y ≡ Less) ks
all_less name k [] l h = tt
all_less name k (y ∷ ys) l h = (nat_list_cmp_total.trans name k y l h.0, all_less name k ys l h.1)

keys_at : (P : List ℕ → Type 0) (e : List ℕ × Macro) (t : Table) (name : List ℕ) (m : Macro) (r : Ordering) → P e.0 → AllByRecursion P (keys_of t) → P name → AllByRecursion P (keys_of (with_macro t name m))
    → AllByRecursion P (keys_of (match_ordering r ((name, m) ∷ e ∷ t) ((e.0, m) ∷ t) (e ∷ with_macro t name m)))
keys_at P e t name m Less first others here more = (here, (first, others))
keys_at P e t name m Equal first others here more = (first, others)
keys_at P e t name m Greater first others here more = (first, more)

keys_with : (P : List ℕ → Type 0) (t : Table) (name : List ℕ) (m : Macro) → AllByRecursion P (keys_of t) → P name → AllByRecursion P (keys_of (with_macro t name m))
keys_with P [] name m h p = (p, tt)
keys_with P (e ∷ t) name m h p = keys_at P e t name m (compare name e.0) h.0 h.1 p (keys_with P t name m h.1 p)

sorted_at : (e : List ℕ × Macro) (t : Table) (name : List ℕ) (m : Macro) (r : Ordering) → compare name e.0 ≡ r → IsStrictlySortedBy (slice_cmp nat_cmp) (keys_of (e ∷ t))
    → IsStrictlySortedBy (slice_cmp nat_cmp) (keys_of (with_macro t name m))
    → IsStrictlySortedBy (slice_cmp nat_cmp) (keys_of (match_ordering r ((name, m) ∷ e ∷ t) ((e.0, m) ∷ t) (e ∷ with_macro t name m)))
unfolding IsStrictlySortedBy
sorted_at e t name m Less c s more = ((c, all_less name e.0 (keys_of t) c s.0), s)
sorted_at e t name m Equal c s more = s
sorted_at e t name m Greater c s more =
    (keys_with (λ (y : List ℕ). compare e.0 y ≡ Less) t name m s.0 (turned name e.0 Greater c), more)

pub sorted_with : (t : Table) (name : List ℕ) (m : Macro) → IsStrictlySortedBy (slice_cmp nat_cmp) (keys_of t) → IsStrictlySortedBy (slice_cmp nat_cmp) (keys_of (with_macro t name m))
unfolding IsStrictlySortedBy
sorted_with [] name m s = (tt, tt)
sorted_with (e ∷ t) name m s = sorted_at e t name m (compare name e.0) refl s (sorted_with t name m s.1)

-- the entry at an index
pub entry_is : (es : List Entry) (i : ℕ) (e : Entry) → i < length es → e ≡ get_or es i e → Some (e.name, e.meaning) ≡ slice_get (table_of es) i
entry_is [] i e h k = absurd (omega (arith, h))
entry_is (x ∷ xs) zero e h k = ap (λ (y : Entry). Some (y.name, y.meaning)) k
entry_is (x ∷ xs) (suc i) e h k = entry_is xs i e (omega (arith, h)) k

pub no_entry : (es : List Entry) (i : ℕ) → length es ≤ i → None ≡ slice_get (table_of es) i
no_entry [] i h = refl
no_entry (x ∷ xs) zero h = absurd (omega (arith, h))
no_entry (x ∷ xs) (suc i) h = no_entry xs i (omega (arith, h))
