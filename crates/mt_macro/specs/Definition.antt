-- Definitions of macros.
use Rattle.std.specs.Prelude.{◌≡◌, ℕ, true, not, ◌&&◌, ◌||◌, nat_lt, nat_le, List, Option, Some}
use Rattle.std.specs.Prelude.{None, is_some, Result, Ok, Err, IsOk, if◌then◌else◌}
use Rattle.std.specs.Str.{bytes_eq}
use Rattle.mt_token.specs.declared.token.Token.{Token}
use Rattle.mt_macro.specs.declared.definition.MacroError.{MacroError}
use Rattle.mt_macro.specs.declared.definition.MacroError.TheVariants.{BadParameters, Unbalanced, TooMany, OutOfMemory}
use Rattle.mt_macro.specs.declared.table.Macro.{Macro}
use Rattle.mt_macro.specs.Limits.{max_params, max_own_names}
use Rattle.mt_macro.specs.Braces.{first_unmatched}
use Rattle.mt_macro.specs.Parameters.{first_bad_parameter}
use Rattle.mt_macro.specs.Table.{Table, macro_of, with_macro, is_own, own_count}

-- what is wrong with a body
abbrev pub body_fault : ℕ → List Token → Option MacroError
body_fault params body =
    if nat_lt max_params params || is_some (first_bad_parameter params body) then Some BadParameters
    else if is_some (first_unmatched 0 body) then Some Unbalanced
    else None

abbrev pub unless_fault : Option MacroError → Result Table MacroError → Result Table MacroError
unless_fault None answer = answer
unless_fault (Some fault) answer = Err fault

-- the table after a definition of the user's
abbrev pub define : Table → List ℕ → ℕ → List Token → Result Table MacroError
define table name params body = unless_fault (body_fault params body)
    (if not (is_own (macro_of table name)) && nat_le max_own_names (own_count table) then Err TooMany
    else Ok (with_macro table name (record { own = true; params = params; body = body })))

-- the table after a definition that makes no name the user's own
abbrev pub preload : Table → List ℕ → ℕ → List Token → Result Table MacroError
preload table name params body = unless_fault (body_fault params body)
    (Ok (with_macro table name (record { own = is_own (macro_of table name); params = params; body = body })))

-- the result and the new table are this answer; memory runs out only in place of a table
abbrev pub Answers : Result (Unit {0}) MacroError → Table → Result Table MacroError → Type 0
Answers (Ok done) new answer = answer ≡ Ok new
Answers (Err OutOfMemory) new answer = IsOk answer
Answers (Err BadParameters) new answer = answer ≡ Err BadParameters
Answers (Err Unbalanced) new answer = answer ≡ Err Unbalanced
Answers (Err TooMany) new answer = answer ≡ Err TooMany

-- the new table has this macro under this name, and under each other name what the old one has
abbrev pub HasMacroAt : Table → Table → List ℕ → Macro → Type 0
HasMacroAt old new name m =
    (other : List ℕ) → macro_of new other ≡ (if bytes_eq other name then Some m else macro_of old other)
