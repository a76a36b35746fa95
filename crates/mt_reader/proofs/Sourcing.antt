-- The words of a source are read as the tokens that its document is defined by.
use Rattle.std.proofs.Common.{◌≡◌, ℕ, ◌<◌, ◌≤◌, List, [], ◌∷◌, length, map, Ok, refl, sym, ap, ◌∙◌, arith, true≢false}
use Rattle.std.specs.Prelude.{Bool, true, false, nat_lt, Err, if◌then◌else◌}
use Rattle.std.proofs.Math.Nat.{mod-eq_of_lt}
use Rattle.std.proofs.lemmas.Bool.Decides.{nat_tests}
use Rattle.mt_token.specs.declared.token.TokenKind.{TokenKind}
use Rattle.mt_token.specs.declared.token.TokenKind.TheVariants.{Control, Char, Space}
use Rattle.mt_token.specs.declared.token.TokenError.{TokenError}
use Rattle.mt_token.specs.declared.token.TokenError.TheVariants.{NotAscii, BadByte, TooLong, OutOfMemory}
use Rattle.mt_token.specs.declared.lexeme.State.TheVariants.{New}
use Rattle.mt_token.specs.Character.{character_code}
use Rattle.mt_token.specs.Tokens.{Spanned, Answer, lex, source_tokens, max_source}
use Rattle.mt_token.proofs.Same.{same_token}
use Rattle.mt_lexicon.specs.declared.word.Word.{Word}
use Rattle.mt_lexicon.specs.Meaning.{NameTable, ascii_of, kind_of, token_of as read_as}
use Rattle.mt_lexicon.specs.Reading.{AreWordsOf}
use Rattle.mt_plain.specs.PlainMacros.{ascii_kind}
use Rattle.mt_scaled.specs.declared.unit.Units.{Units}
use Rattle.mt_plain.specs.CodeTables.{plain_codes}
use Rattle.mt_reader.specs.Documents.{NotLexed, document}
use Rattle.mt_reader.specs.Sources.{document_by, plain_words, source_document, word_token}

ascii_same : (kind : TokenKind) → character_code kind < 128 → ascii_kind kind ≡ kind
ascii_same (Control name) below = refl
ascii_same (Char c) below = ap Char (mod-eq_of_lt below)
ascii_same Space below = refl

word_same : (names : NameTable) (w : Word) (t : Spanned) → t.kind ≡ kind_of names w.kind → read_as names w ≡ word_token t
word_same names w t e =
    let kind : kind_of names w.kind ≡ ascii_kind t.kind = sym (ascii_same (kind_of names w.kind) (ascii_of names w.kind w.ascii)) ∙ ap ascii_kind (sym e) in
    same_token (read_as names w) (word_token t) (ap (λ (k : TokenKind). let s : Spanned = record { kind = k; start = 0; end = 0 } in s) kind)

pub words_same : (names : NameTable) (words : List Word) (list : List Spanned) → AreWordsOf names words list → map (read_as names) words ≡ map word_token list
words_same names [] [] h = refl
words_same names [] (t ∷ ts) h = absurd h
words_same names (w ∷ ws) [] h = absurd h
words_same names (w ∷ ws) (t ∷ ts) h = ap (λ x. x ∷ map (read_as names) ws) (word_same names w t h.0.0) ∙ ap (λ xs. word_token t ∷ xs) (words_same names ws ts h.1)

tested_lex : (b : Bool) (lexed : Answer) → b ≡ false → (if b then Err TooLong else lexed) ≡ lexed
tested_lex true lexed e = absurd (true≢false e)
tested_lex false lexed e = refl

-- a source that is not too long is lexed
pub lexed : (bytes : List ℕ) → length bytes ≤ max_source → source_tokens bytes ≡ lex New 0 0 bytes
lexed bytes h = tested_lex (nat_lt max_source (length bytes)) (lex New 0 0 bytes) (grind (arith, nat_tests))

tested_long : (b : Bool) (lexed : Answer) → b ≡ true → (if b then Err TooLong else lexed) ≡ Err TooLong
tested_long true lexed e = refl
tested_long false lexed e = absurd (true≢false (sym e))

-- a source that is too long is refused
pub too_long : (units : Units) (bytes : List ℕ) → max_source < length bytes → source_document units bytes ≡ Err (NotLexed TooLong)
too_long units bytes h = ap (document_by units) (tested_long (nat_lt max_source (length bytes)) (lex New 0 0 bytes) (grind (arith, nat_tests)))
