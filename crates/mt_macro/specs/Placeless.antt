-- Tokens and macros without the places of tokens in their source. What a document means depends on no place.
use Rattle.std.specs.Prelude.{ℕ, List, map}
use Rattle.mt_token.specs.declared.token.Token.{Token}
use Rattle.mt_macro.specs.declared.table.Macro.{Macro}
use Rattle.mt_macro.specs.Table.{Table}

-- the same token at no place
abbrev pub placeless : Token → Token
placeless t = record { kind = t.kind; start = 0; end = 0; ascii = t.ascii }

-- the same macro with a body of tokens at no place
abbrev pub placeless_macro : Macro → Macro
placeless_macro m = record { own = m.own; params = m.params; body = map placeless m.body }

-- the same macros with such bodies
abbrev pub placeless_table : Table → Table
placeless_table table = map (λ (e : List ℕ × Macro). (e.0, placeless_macro e.1)) table
