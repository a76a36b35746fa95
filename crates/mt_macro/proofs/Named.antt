-- Macros by their names.
use Rattle.std.proofs.Common.{◌≡◌, ℕ, suc, ◌+◌, Bool, true, false, List, [], ◌∷◌, refl, sym}
use Rattle.std.proofs.Common.{ap, subst, ◌∙◌, arith, cond, get_or}
use Rattle.std.specs.Prelude.{Option, Some, None, All, ◌||◌, ◌&&◌, not, unwrap_or, if◌then◌else◌}
use Rattle.std.specs.Option.{option_map}
use Rattle.std.specs.Str.{bytes_eq}
use Rattle.std.specs.Map.{lookup, keys_of, values_of}
use Rattle.std.specs.BTreeMap.{is_at}
use Rattle.std.specs.List.Sorted.{IsStrictlySortedBy}
use Rattle.std.specs.Cmp.Lexicographic.{slice_cmp}
use Rattle.std.specs.Ordering.{nat_cmp, is_eq, match_ordering}
use Rattle.std.specs.declared.cmp.Ordering.{Ordering}
use Rattle.std.specs.declared.cmp.Ordering.TheVariants.{Less, Equal, Greater}
use Rattle.std.proofs.lemmas.Cmp.{nat_list_cmp_total}
use Rattle.mt_macro.specs.declared.table.Entry.{Entry}
use Rattle.mt_macro.specs.inner.Entries.{table_of}
use Rattle.mt_macro.proofs.Entries.{sorted_with}
use Rattle.std.proofs.lemmas.Map.Text.{is_eq-slice_cmp}
use Rattle.std.proofs.lemmas.Map.Entries.{sum_by-insert_entry}
use Rattle.std.proofs.lemmas.Map.Views.{All-keys-insert_entry, All-values-insert_entry}
use Rattle.mt_token.specs.declared.token.Token.{Token}
use Rattle.mt_macro.specs.declared.table.Macro.{Macro}
use Rattle.std.proofs.lemmas.Slice.Eq.{bytes_eq-Decides}
use Rattle.std.proofs.lemmas.Bool.{true≢false}
use Rattle.mt_macro.specs.Definition.{HasMacroAt}
use Rattle.mt_macro.specs.Table.{Table, macro_of, with_macro, is_own, own_count}
use Rattle.mt_macro.specs.declared.name_marks.NameMarks.{NameMarks}
use Rattle.mt_macro.specs.inner.Marks.{has_mark}
use Rattle.mt_macro.specs.inner.Kept.{HasShortBody, IsKept}

own_found : (o : Option Macro)
    → ◌≡◌ {A = ℕ} (unwrap_or (option_map (λ (m : Macro). if m.own then 1 else 0) o) 0) (if is_own o then 1 else 0)
own_found None = refl
own_found (Some m) = refl

pub count_cases : (makes_own was : Bool) (new old : ℕ)
    → new + (if was then 1 else 0) ≡ old + (if makes_own || was then 1 else 0)
    → (if makes_own && not was then old + 1 else old) ≡ new
count_cases true true new old e = omega (arith, e)
count_cases true false new old e = omega (arith, e)
count_cases false true new old e = omega (arith, e)
count_cases false false new old e = omega (arith, e)

lookup_is : (name : List ℕ) (es : Table) → lookup (is_at (slice_cmp nat_cmp name)) es ≡ macro_of es name
lookup_is name [] = refl
lookup_is name (e ∷ es) =
    ap (λ b. cond b (Some e.1) (lookup (is_at (slice_cmp nat_cmp name)) es)) (is_eq-slice_cmp name e.0)
    ∙ ap (cond (bytes_eq name e.0) (Some e.1)) (lookup_is name es)

-- the user's own names, after a definition
pub own_inserted : (name : List ℕ) (v : Macro) (es : Table) → IsStrictlySortedBy (slice_cmp nat_cmp) (keys_of es)
    → own_count (with_macro es name v) + (if is_own (macro_of es name) then 1 else 0)
    ≡ own_count es + (if v.own then 1 else 0)
own_inserted name v es sorted =
    let own : Macro → ℕ = λ (m : Macro). if m.own then 1 else 0 in
    let total = sum_by-insert_entry own nat_list_cmp_total es name v sorted in
    let found : unwrap_or (option_map own (lookup (is_at (slice_cmp nat_cmp name)) es)) 0 ≡
    (if is_own (macro_of es name) then 1 else 0) = ap
    (λ (o : Option Macro). unwrap_or (option_map own o) 0) (lookup_is name es)
    ∙ own_found (macro_of es name) in
    omega (arith, total, found)

pub put_kept : (table table' : Table) (name : List ℕ) (v : Macro) (makes_own was : Bool) (own own' : ℕ)
    (marks marks' : NameMarks) → IsKept table own marks → HasShortBody v → table' ≡ with_macro table name v
    → was ≡ is_own (macro_of table name) → v.own ≡ (makes_own || was)
    → own' ≡ (if makes_own && not was then own + 1 else own) → has_mark marks' name ≡ true
    → ((other : List ℕ) → has_mark marks other ≡ true → has_mark marks' other ≡ true)
    → IsKept table' own' marks'
put_kept table table' name v makes_own was own own' marks marks' kept short placed w o is here others =
    let before : own_count (with_macro table name v) + (if was then 1 else 0) ≡ own_count table +
    (if makes_own || was then 1 else 0) = ap
    (λ (b : Bool). own_count (with_macro table name v) + (if b then 1 else 0)) w
    ∙ (own_inserted name v table kept.sorted ∙ ap (λ (b : Bool). own_count table + (if b then 1 else 0)) o) in
    record {
      counted =
          is ∙ (ap (λ (n : ℕ). if makes_own && not was then n + 1 else n) kept.counted
          ∙ (count_cases makes_own was _ _ before ∙ ap own_count (sym placed)));
      short =
          subst (λ (t : Table). All HasShortBody (values_of t)) (sym placed)
          (All-values-insert_entry (slice_cmp nat_cmp) name v HasShortBody table kept.short short);
      marked =
          subst (λ (t : Table). All (λ (n : List ℕ). has_mark marks' n ≡ true) (keys_of t)) (sym placed)
          (All-keys-insert_entry (slice_cmp nat_cmp) name v (λ (n : List ℕ). has_mark marks' n ≡ true) table
          (λ i d l. others (get_or (keys_of table) i d) (kept.marked i d l)) here);
      sorted =
          subst (λ (t : Table). IsStrictlySortedBy (slice_cmp nat_cmp) (keys_of t)) (sym placed)
          (sorted_with table name v kept.sorted);
    }

pub kept_none : (es : List Entry) (marks : NameMarks) → es ≡ [] → IsKept (table_of es) 0 marks
unfolding IsStrictlySortedBy
kept_none es marks e =
    subst (λ (x : List Entry). IsKept (table_of x) 0 marks) (sym e)
    (record {
      counted = refl;
      short = λ i d l. absurd (omega (arith, l));
      marked = λ i d l. absurd (omega (arith, l));
      sorted = tt;
    })

-- the new table has the macro, and all others
same_names : (a b : List ℕ) → bytes_eq a b ≡ true → a ≡ b
same_names a b e = (bytes_eq-Decides a b).0 e

equal_names : (a b : List ℕ) → slice_cmp nat_cmp a b ≡ Equal → a ≡ b
equal_names a b e = same_names a b (sym (is_eq-slice_cmp a b) ∙ ap is_eq e)

name_itself : (a : List ℕ) → is_eq (slice_cmp nat_cmp a a) ≡ true
name_itself a = is_eq-slice_cmp a a ∙ (bytes_eq-Decides a a).1 refl

not_both : (name other n : List ℕ) → slice_cmp nat_cmp name n ≡ Greater → bytes_eq other name ≡ true
    → bytes_eq other n ≡ true → ⊥
not_both name other n g a b =
    let same : name ≡ n = sym (same_names other name a) ∙ same_names other n b in
    true≢false (sym (name_itself name) ∙ (ap (λ (x : List ℕ). is_eq (slice_cmp nat_cmp name x)) same ∙ ap is_eq g))

swapped : (p q : Bool) (x y l : Option Macro) → (p ≡ true → q ≡ true → ⊥)
    → cond q y (cond p x l) ≡ cond p x (cond q y l)
swapped true true x y l h = absurd (h refl refl)
swapped true false x y l h = refl
swapped false true x y l h = refl
swapped false false x y l h = refl

hidden : (p : Bool) (x y l : Option Macro) → cond p x l ≡ cond p x (cond p y l)
hidden true x y l = refl
hidden false x y l = refl

put_found_at : (r : Ordering) (name other : List ℕ) (m : Macro) (e : List ℕ × Macro) (es : Table)
    → slice_cmp nat_cmp name e.0 ≡ r
    → macro_of (with_macro es name m) other ≡ cond (bytes_eq other name) (Some m) (macro_of es other)
    → macro_of (match_ordering r ((name, m) ∷ e ∷ es) ((e.0, m) ∷ es) (e ∷ with_macro es name m)) other ≡ cond
    (bytes_eq other name) (Some m) (macro_of (e ∷ es) other)
put_found_at Less name other m e es is h = refl
put_found_at Equal name other m e es is h =
    subst (λ (n : List ℕ). cond (bytes_eq other e.0) (Some m) (macro_of es other) ≡ cond (bytes_eq other n) (Some m)
    (macro_of (e ∷ es) other)) (sym (equal_names name e.0 is))
    (hidden (bytes_eq other e.0) (Some m) (Some e.1) (macro_of es other))
put_found_at Greater name other m e es is h =
    ap (cond (bytes_eq other e.0) (Some e.1)) h
    ∙ swapped (bytes_eq other name) (bytes_eq other e.0) (Some m) (Some e.1) (macro_of es other)
    (λ p q. not_both name other e.0 is p q)

pub put_found : (table : Table) (name : List ℕ) (m : Macro) → HasMacroAt table (with_macro table name m) name m
put_found [] name m = λ other. refl
put_found (e ∷ es) name m =
    λ other. put_found_at (slice_cmp nat_cmp name e.0) name other m e es refl (put_found es name m other)

pub put_has : (table table' : Table) (name : List ℕ) (m : Macro) → table' ≡ with_macro table name m
    → HasMacroAt table table' name m
put_has table table' name m e = subst (λ (t : Table). HasMacroAt table t name m) (sym e) (put_found table name m)

pub same_macro : (own own' : Bool) (params : ℕ) (body body' : List Token) → own ≡ own' → body ≡ body'
    → (let m : Macro = record { own = own; params = params; body = body } in m) ≡ record
    { own = own'; params = params; body = body' }
same_macro own own' params body body' e f =
    ap (λ (x : Bool). record { own = x; params = params; body = body }) e
    ∙ ap (λ (x : List Token). record { own = own'; params = params; body = x }) f

-- a name without its mark has no macro
marked_not : (marks : NameMarks) (name n : List ℕ) (b : Bool) (m : Macro) (o : Option Macro) → bytes_eq name n ≡ b
    → has_mark marks n ≡ true → has_mark marks name ≡ false → o ≡ None → cond b (Some m) o ≡ None
marked_not marks name n true m o e here not_here h =
    absurd (true≢false (sym here ∙ (ap (has_mark marks) (sym (same_names name n e)) ∙ not_here)))
marked_not marks name n false m o e here not_here h = h

not_named : (marks : NameMarks) (name : List ℕ) (table : Table)
    → All (λ (n : List ℕ). has_mark marks n ≡ true) (keys_of table) → has_mark marks name ≡ false
    → macro_of table name ≡ None
not_named marks name [] all h = refl
not_named marks name (e ∷ es) all h =
    marked_not marks name e.0 (bytes_eq name e.0) e.1 (macro_of es name) refl (all 0 e.0 (omega arith)) h
    (not_named marks name es (λ k d l. all (suc k) d (omega (arith, l))) h)

pub unmarked : (table : Table) (name : List ℕ) (own : ℕ) (marks : NameMarks) (b : Bool) → IsKept table own marks
    → b ≡ has_mark marks name → b ≡ false → None ≡ macro_of table name
unmarked table name own marks b kept e f = sym (not_named marks name table kept.marked (sym e ∙ f))
