-- Macros that are kept by the numbers of their names.
use Rattle.std.specs.Prelude.{◌≡◌, ℕ, ◌<◌, ◌≤◌, ◌^◌, false, List, [], ◌∷◌, ◌++◌, map, length, take, drop, Option, Some, None, slice_get, get_or}
use Rattle.std.specs.Option.{option_map}
use Rattle.std.specs.List.{AllByRecursion}
use Rattle.std.specs.Map.{keys_of}
use Rattle.std.specs.List.Sorted.{IsStrictlySortedBy}
use Rattle.std.specs.Cmp.Lexicographic.{slice_cmp}
use Rattle.std.specs.Ordering.{nat_cmp}
use Rattle.mt_macro.specs.declared.table.Macro.{Macro}
use Rattle.mt_macro.specs.Table.{Table, macro_of}
use Rattle.mt_lexicon.specs.declared.word.Word.{Word}
use Rattle.mt_token.specs.declared.token.TokenKind.TheVariants.{Control}
use Rattle.mt_lexicon.specs.Meaning.{NameTable, kind_of, token_of, Known, IsDistinct}
use Rattle.mt_tables.specs.declared.kept.KeptMacro.{KeptMacro}
use Rattle.mt_tables.specs.inner.Places.{IsPlace}

-- the macro, with the tokens that its words are read as
abbrev pub macro_of_kept : NameTable → KeptMacro → Macro
macro_of_kept names k = record { own = k.own; params = k.params; body = map (token_of names) k.body.items }

abbrev pub no_macro : Macro
no_macro = record { own = false; params = 0; body = [] }

abbrev pub macro_or_none : NameTable → Option KeptMacro → Macro
macro_or_none names None = no_macro
macro_or_none names (Some k) = macro_of_kept names k

abbrev pub found_macro : NameTable → Option KeptMacro → Option Macro
found_macro names k = option_map (macro_of_kept names) k

abbrev pub body_items : Option KeptMacro → List Word
body_items None = []
body_items (Some k) = k.body.items

abbrev pub kept_or_none : Option (Option KeptMacro) → Option KeptMacro
kept_or_none None = None
kept_or_none (Some k) = k

-- what is kept at a number
abbrev pub kept_at : List (Option KeptMacro) → ℕ → Option KeptMacro
kept_at ks n = kept_or_none (slice_get ks n)

-- the name with a number
abbrev pub name_at : NameTable → ℕ → List ℕ
name_at names n = get_or names n []

-- the name with a number, and its macro
abbrev pub entry_of : NameTable → List (Option KeptMacro) → ℕ → List ℕ × Macro
entry_of names ks n = (name_at names n, macro_or_none names (kept_at ks n))

-- the macros of names, by the order in which their numbers are listed
abbrev pub table_of : NameTable → List (Option KeptMacro) → List ℕ → Table
table_of names ks order = map (entry_of names ks) order

-- the names of a body are in the table, and its words can be counted
abbrev pub IsKnownBody : NameTable → Option KeptMacro → Type 0
IsKnownBody names None = Unit {0}
IsKnownBody names (Some k) = AllByRecursion (Known names) k.body.items × (length k.body.items ≤ 2 ^ 32)

-- what holds of macros that are kept, and of the numbers of their names in the order of the names
pub record AreMacros (names : NameTable) (ks : List (Option KeptMacro)) (order : List ℕ) : Type 0 where
  pub distinct : IsDistinct names
  pub within : length ks ≤ length names
  pub known : AllByRecursion (IsKnownBody names) ks
  pub listed : AllByRecursion (λ n. n < length names) order
  pub sorted : IsStrictlySortedBy (slice_cmp nat_cmp) (keys_of (table_of names ks order))
  pub found : (n : ℕ) (name : List ℕ) → slice_get names n ≡ Some name → macro_of (table_of names ks order) name ≡ found_macro names (kept_at ks n)

-- more places, at which nothing is kept
abbrev pub Pads : List (Option KeptMacro) → List (Option KeptMacro) → Type 0
Pads old new = (more : List (Option KeptMacro)) × (new ≡ old ++ more) × AllByRecursion (λ k. k ≡ None) more

-- the new list has this number in the place of its name, if nothing was kept at it
abbrev pub Lists : NameTable → Option KeptMacro → List ℕ → List ℕ → ℕ → Type 0
Lists names (Some k) old new n = new ≡ old
Lists names None old new n = (place : ℕ) × IsPlace (name_at names n) (map (name_at names) old) place × (new ≡ take place old ++ n ∷ drop place old)

-- the word is read as the name with this number
abbrev pub IsNumberOf : NameTable → Word → ℕ → Type 0
IsNumberOf names w n = (n < length names) × (kind_of names w.kind ≡ Control (name_at names n))
