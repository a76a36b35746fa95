-- Which tokens name macros.
use Rattle.std.specs.Prelude.{◌≡◌, ℕ, Bool, List, Option, Some, None, is_some}
use Rattle.mt_token.specs.declared.token.Token.{Token}
use Rattle.mt_macro.specs.declared.table.Macro.{Macro}
use Rattle.mt_macro.specs.Table.{Table, macro_at}

abbrev pub names_macro : Table → Token → Bool
names_macro table t = is_some (macro_at table t)

-- there is a macro, with so many parameters and this body
abbrev pub IsMacro : Option Macro → ℕ → List Token → Type 0
IsMacro None params body = ⊥
IsMacro (Some m) params body = (m.params ≡ params) × (m.body ≡ body)
