-- What tables of words have.
use Rattle.std.specs.Prelude.{ℕ, List, [], Option, Some, None, slice_get}
use Rattle.mt_token.specs.declared.token.Token.{Token}
use Rattle.mt_macro.specs.declared.table.Macro.{Macro}
use Rattle.mt_macro.specs.Table.{Table, macro_of}
use Rattle.mt_plain.specs.CodeTables.{CodeTables}
use Rattle.mt_lexicon.specs.declared.word.Word.{Word}
use Rattle.mt_lexicon.specs.Meaning.{NameTable, token_of}

-- the codes of characters, names by their numbers, and macros by their names
pub record Held : Type 0 where
  pub codes : CodeTables
  pub names : NameTable
  pub macros : Table

-- the token that a word is read as
abbrev pub held_token : Held → Word → Token
held_token h w = token_of h.names w

abbrev pub macro_named : Table → Option (List ℕ) → Option Macro
macro_named table None = None
macro_named table (Some name) = macro_of table name

-- the macro of the name with a number
abbrev pub macro_numbered : Held → ℕ → Option Macro
macro_numbered h n = macro_named h.macros (slice_get h.names n)

abbrev pub body_of : Option Macro → List Token
body_of None = []
body_of (Some m) = m.body

-- the body of the macro of the name with a number; no tokens where there is none
abbrev pub body_numbered : Held → ℕ → List Token
body_numbered h n = body_of (macro_numbered h n)
