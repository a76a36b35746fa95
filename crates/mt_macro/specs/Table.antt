-- Macros by their names: a finite map, as the list of its entries in the names' order.
use Rattle.std.specs.Prelude.{ℕ, Bool, false, List, Option, Some, None, sum_by, if◌then◌else◌}
use Rattle.std.specs.Str.{bytes_eq}
use Rattle.std.specs.Map.{lookup, values_of}
use Rattle.std.specs.BTreeMap.{insert_entry}
use Rattle.std.specs.Cmp.Lexicographic.{slice_cmp}
use Rattle.std.specs.Ordering.{nat_cmp}
use Rattle.mt_token.specs.declared.token.Token.{Token}
use Rattle.mt_token.specs.declared.token.TokenKind.{TokenKind}
use Rattle.mt_token.specs.declared.token.TokenKind.TheVariants.{Control, Char, Space}
use Rattle.mt_macro.specs.declared.table.Macro.{Macro}

abbrev pub Table : Type 0
Table = List (List ℕ × Macro)

-- the macro of a name
abbrev pub macro_of : Table → List ℕ → Option Macro
macro_of table name = lookup (λ (n : List ℕ). bytes_eq name n) table

abbrev pub macro_of_kind : Table → TokenKind → Option Macro
macro_of_kind table (Control name) = macro_of table name
macro_of_kind table (Char c) = None
macro_of_kind table Space = None

-- the macro that a token names
abbrev pub macro_at : Table → Token → Option Macro
macro_at table t = macro_of_kind table t.kind

-- the table with a macro under a name, in place of an older one
abbrev pub with_macro : Table → List ℕ → Macro → Table
with_macro table name m = insert_entry (slice_cmp nat_cmp) table name m

abbrev pub is_own : Option Macro → Bool
is_own None = false
is_own (Some m) = m.own

-- how many names are the user's own
abbrev pub own_count : Table → ℕ
own_count table = sum_by (λ (m : Macro). if m.own then 1 else 0) (values_of table)
