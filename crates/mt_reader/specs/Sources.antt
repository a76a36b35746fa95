-- The document of a source, in plain TeX's codes and macros (`source_document`).
use Rattle.std.specs.Prelude.{ℕ, List, map, Ok, Err}
use Rattle.mt_scaled.specs.declared.unit.Units.{Units}
use Rattle.mt_token.specs.declared.token.Token.{Token}
use Rattle.mt_token.specs.Tokens.{Spanned, Answer, source_tokens}
use Rattle.mt_macro.specs.Placeless.{placeless, placeless_table}
use Rattle.mt_macro.specs.Table.{Table}
use Rattle.mt_plain.specs.CodeTables.{plain_codes}
use Rattle.mt_plain.specs.PlainMacros.{plain_table, token_of}
use Rattle.mt_reader.specs.Documents.{DocumentAnswer, NotLexed, document}

-- A document is read from tokens at no place: no definition of documents looks at where in the source, in bytes, a token is,
-- and a fault has the index of its token.

-- the macros of plain TeX, with bodies of tokens at no place
abbrev pub plain_words : Table
plain_words = placeless_table plain_table

-- the token of a kind, at no place
abbrev pub word_token : Spanned → Token
word_token s = placeless (token_of s)

abbrev pub document_by : Units → Answer → DocumentAnswer
document_by units (Ok list) = document units plain_codes plain_words (map word_token list)
document_by units (Err cause) = Err (NotLexed cause)

-- the pages of a source, or why it has none; units are the em and the ex
abbrev pub source_document : Units → List ℕ → DocumentAnswer
source_document units bytes = document_by units (source_tokens bytes)
