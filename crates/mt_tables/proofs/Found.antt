-- The macros of names by their numbers.
use Rattle.std.proofs.Common.{◌≡◌, ℕ, ◌<◌, ◌≤◌, ◌^◌, inl, inr, List, [], length, map, refl, sym, ap, subst, ◌∙◌, arith}
use Rattle.std.specs.Prelude.{Option, Some, None, slice_get, false}
use Rattle.std.specs.List.Sorted.{IsStrictlySortedBy}
use Rattle.std.proofs.lemmas.Option.{slice_get_past}
use Rattle.mt_macro.specs.declared.table.Macro.{Macro}
use Rattle.mt_macro.specs.Table.{macro_of, is_own, own_count}
use Rattle.mt_macro.specs.Naming.{IsMacro}
use Rattle.mt_plain.specs.CodeTables.{CodeTables}
use Rattle.mt_lexicon.specs.Meaning.{NameTable, token_of}
use Rattle.mt_lexicon.specs.declared.word.Word.{Word}
use Rattle.mt_tables.specs.declared.kept.KeptMacro.{KeptMacro}
use Rattle.mt_tables.specs.Held.{Held, held_token, macro_named, macro_numbered, body_of, body_numbered}
use Rattle.mt_tables.specs.inner.KeptMacros.{macro_of_kept, found_macro, body_items, kept_at, kept_or_none, name_at, table_of, IsKnownBody, AreMacros}
use Rattle.mt_tables.proofs.Growing.{known_at, name_there, either}

pub macros_none : (names : NameTable) (ks : List (Option KeptMacro)) (order : List ℕ) → names ≡ [] → ks ≡ [] → order ≡ [] → AreMacros names ks order
unfolding IsStrictlySortedBy
macros_none names ks order a b e = rw (a, b, e) none
  where
    none : AreMacros [] [] []
    none = record { distinct = tt; within = omega arith; known = tt; listed = tt; sorted = tt; found = λ n name e. absurd (cc) }

numbered_by : (names : NameTable) (ks : List (Option KeptMacro)) (order : List ℕ) (n : ℕ) → AreMacros names ks order → macro_named (table_of names ks order) (slice_get names n) ≡ found_macro names (kept_at ks n)
numbered_by names ks order n h = elim (either n (length names)) [
  | inl l ↦ ap (macro_named (table_of names ks order)) (name_there names n l) ∙ h.found n (name_at names n) (name_there names n l)
  | inr g ↦ ap (macro_named (table_of names ks order)) (slice_get_past names n g)
      ∙ sym (ap (λ k. found_macro names (kept_or_none k)) (slice_get_past ks n (omega (arith, g, h.within))))
]

pub numbered_is : (codes : CodeTables) (names : NameTable) (ks : List (Option KeptMacro)) (order : List ℕ) (h : Held) (n : ℕ) → AreMacros names ks order → record { codes = codes; names = names; macros = table_of names ks order } ≡ h
    → macro_numbered h n ≡ found_macro names (kept_at ks n)
numbered_is codes names ks order h n m e = subst (λ (x : Held). macro_numbered x n ≡ found_macro names (kept_at ks n)) e (numbered_by names ks order n m)

is_macro : (names : NameTable) (o : Option Macro) (k : KeptMacro) → o ≡ Some (macro_of_kept names k) → IsMacro o k.params (body_of o)
is_macro names o k e = subst (λ (x : Option Macro). IsMacro x k.params (body_of x)) (sym e) (refl, refl)

pub found_is : (codes : CodeTables) (names : NameTable) (ks : List (Option KeptMacro)) (order : List ℕ) (h : Held) (n : ℕ) (k : KeptMacro) → AreMacros names ks order → record { codes = codes; names = names; macros = table_of names ks order } ≡ h
    → kept_at ks n ≡ Some k → IsMacro (macro_numbered h n) k.params (body_numbered h n)
found_is codes names ks order h n k m e a = is_macro names (macro_numbered h n) k (numbered_is codes names ks order h n m e ∙ ap (found_macro names) a)

pub none_is : (codes : CodeTables) (names : NameTable) (ks : List (Option KeptMacro)) (order : List ℕ) (h : Held) (n : ℕ) → AreMacros names ks order → record { codes = codes; names = names; macros = table_of names ks order } ≡ h
    → kept_at ks n ≡ None → macro_numbered h n ≡ None
none_is codes names ks order h n m e a = numbered_is codes names ks order h n m e ∙ ap (found_macro names) a

body_by : (names : NameTable) (k : Option KeptMacro) → map (token_of names) (body_items k) ≡ body_of (found_macro names k)
body_by names None = refl
body_by names (Some k) = refl

pub body_is : (codes : CodeTables) (names : NameTable) (ks : List (Option KeptMacro)) (order : List ℕ) (h : Held) (n : ℕ) (items : List Word) → AreMacros names ks order → record { codes = codes; names = names; macros = table_of names ks order } ≡ h
    → items ≡ body_items (kept_at ks n) → map (held_token h) items ≡ body_numbered h n
body_is codes names ks order h n items m e a =
    ap (λ (x : Held). map (held_token x) items) (sym e) ∙ (ap (map (token_of names)) a ∙ (body_by names (kept_at ks n) ∙ ap body_of (sym (numbered_is codes names ks order h n m e))))

short_by : (names : NameTable) (k : Option KeptMacro) → IsKnownBody names k → length (body_items k) ≤ 2 ^ 32
short_by names None h = omega arith
short_by names (Some k) h = h.1

pub body_short : (names : NameTable) (ks : List (Option KeptMacro)) (order : List ℕ) (n : ℕ) (items : List Word) → AreMacros names ks order → items ≡ body_items (kept_at ks n) → length items ≤ 2 ^ 32
body_short names ks order n items m a = omega (arith, ap length a, short_by names (kept_at ks n) (known_at names ks n m.known))

-- by the name with a number
pub named_is : (codes : CodeTables) (names : NameTable) (ks : List (Option KeptMacro)) (order : List ℕ) (h : Held) (n : ℕ) → AreMacros names ks order → record { codes = codes; names = names; macros = table_of names ks order } ≡ h
    → n < length h.names → macro_of h.macros (name_at h.names n) ≡ found_macro names (kept_at ks n)
named_is codes names ks order h n m e l = ap (macro_named h.macros) (sym (name_there h.names n l)) ∙ numbered_is codes names ks order h n m e

pub own_kept : (codes : CodeTables) (names : NameTable) (ks : List (Option KeptMacro)) (order : List ℕ) (h : Held) (n : ℕ) (k : KeptMacro) → AreMacros names ks order → record { codes = codes; names = names; macros = table_of names ks order } ≡ h
    → n < length h.names → kept_at ks n ≡ Some k → k.own ≡ is_own (macro_of h.macros (name_at h.names n))
own_kept codes names ks order h n k m e l a = sym (ap is_own (named_is codes names ks order h n m e l ∙ ap (found_macro names) a))

pub own_none : (codes : CodeTables) (names : NameTable) (ks : List (Option KeptMacro)) (order : List ℕ) (h : Held) (n : ℕ) → AreMacros names ks order → record { codes = codes; names = names; macros = table_of names ks order } ≡ h
    → n < length h.names → kept_at ks n ≡ None → false ≡ is_own (macro_of h.macros (name_at h.names n))
own_none codes names ks order h n m e l a = sym (ap is_own (named_is codes names ks order h n m e l ∙ ap (found_macro names) a))

pub own_none_of : (names : NameTable) (ks : List (Option KeptMacro)) (order : List ℕ) → order ≡ [] → 0 ≡ own_count (table_of names ks order)
own_none_of names ks order e = rw e refl
