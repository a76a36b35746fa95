-- How many names are the user's own, after a macro is put.
use Rattle.std.proofs.Common.{◌≡◌, ℕ, ◌+◌, Bool, true, false, List, refl, sym, ap, ◌∙◌}
use Rattle.std.specs.Prelude.{Option, ◌||◌, ◌&&◌, not, if◌then◌else◌}
use Rattle.mt_macro.specs.declared.table.Macro.{Macro}
use Rattle.mt_macro.specs.Table.{Table, macro_of, with_macro, is_own, own_count}
use Rattle.mt_macro.proofs.Named.{own_inserted, count_cases}
use Rattle.mt_plain.specs.CodeTables.{CodeTables}
use Rattle.mt_lexicon.specs.Meaning.{NameTable}
use Rattle.mt_tables.specs.Held.{Held}
use Rattle.mt_tables.specs.declared.kept.KeptMacro.{KeptMacro}
use Rattle.mt_tables.specs.inner.KeptMacros.{table_of, name_at, AreMacros}

own_or : (own was : Bool) → (was ≡ true → own ≡ true) → own ≡ (own || was)
own_or true was h = refl
own_or false true h = h refl
own_or false false h = refl

pub counted : (names : NameTable) (ks : List (Option KeptMacro)) (order : List ℕ) (name : List ℕ) (m : Macro) (was : Bool) (own own' : ℕ) → AreMacros names ks order → own ≡ own_count (table_of names ks order)
    → was ≡ is_own (macro_of (table_of names ks order) name) → (was ≡ true → m.own ≡ true) → own' ≡ (if m.own && not was then own + 1 else own) → own' ≡ own_count (with_macro (table_of names ks order) name m)
counted names ks order name m was own own' h e w stays is =
    let table : Table = table_of names ks order in
    let total : own_count (with_macro table name m) + (if was then 1 else 0) ≡ own_count table + (if m.own || was then 1 else 0) =
    ap (λ (b : Bool). own_count (with_macro table name m) + (if b then 1 else 0)) w ∙ (own_inserted name m table h.sorted ∙ ap (λ (b : Bool). own_count table + (if b then 1 else 0)) (own_or m.own was stays)) in
    is ∙ (ap (λ (n : ℕ). if m.own && not was then n + 1 else n) e ∙ count_cases m.own was _ _ total)

pub counted_held : (codes : CodeTables) (names : NameTable) (ks : List (Option KeptMacro)) (order : List ℕ) (h : Held) (n : ℕ) (m : Macro) (was : Bool) (own own' : ℕ) → AreMacros names ks order
    → record { codes = codes; names = names; macros = table_of names ks order } ≡ h → own ≡ own_count (table_of names ks order)
    → was ≡ is_own (macro_of h.macros (name_at h.names n)) → (is_own (macro_of h.macros (name_at h.names n)) ≡ true → m.own ≡ true)
    → own' ≡ (if m.own && not was then own + 1 else own) → own' ≡ own_count (with_macro (table_of names ks order) (name_at names n) m)
counted_held codes names ks order h n m was own own' k v e w stays is =
    counted names ks order (name_at names n) m was own own' k e (w ∙ ap (λ (x : Held). is_own (macro_of x.macros (name_at x.names n))) (sym v)) (λ t. stays (sym w ∙ t)) is
