-- How far a cursor has read its source, and what the rest gives.
use Rattle.std.specs.Prelude.{ℕ, List, drop}
use Rattle.mt_token.specs.declared.cursor.Lexer.{Lexer}
use Rattle.mt_token.specs.Tokens.{Answer, lex}

-- the bytes of the source
abbrev pub source : Lexer → List ℕ
source l = l.bytes.now

-- how many of them are read
abbrev pub offset : Lexer → ℕ
offset l = l.at

-- the tokens of the rest, or its first fault
abbrev pub ahead : Lexer → Answer
ahead l = lex l.state l.at 0 (drop l.at l.bytes.now)
