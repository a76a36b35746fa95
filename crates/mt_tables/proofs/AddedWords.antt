-- Words that are read from a source.
use Rattle.std.proofs.Common.{◌≡◌, ℕ, ◌+◌, List, [], ◌∷◌, ◌++◌, refl, sym, ap, ◌∙◌}
use Rattle.std.specs.Prelude.{Ok, Err}
use Rattle.std.proofs.lemmas.List.{append-nil, append_assoc}
use Rattle.mt_token.specs.declared.token.TokenError.{TokenError}
use Rattle.mt_token.specs.declared.token.TokenError.TheVariants.{NotAscii, BadByte, TooLong, OutOfMemory}
use Rattle.mt_token.specs.declared.token.TokenKind.TheVariants.{Char as CharKind}
use Rattle.mt_token.specs.Tokens.{Spanned, Answer, before}
use Rattle.mt_lexicon.specs.declared.word.Word.{Word}
use Rattle.mt_lexicon.specs.declared.word.WordKind.TheVariants.{Char}
use Rattle.mt_lexicon.specs.Meaning.{NameTable, Extends}
use Rattle.mt_lexicon.specs.Reading.{IsWordOf, AreWordsOf, IsFault}
use Rattle.mt_tables.specs.Reading.{AddsWords}
use Rattle.mt_tables.proofs.Growing.{kind_append, known_append}
use Rattle.mt_tables.proofs.Loads.{keeps_itself}

word_kept : (old new : NameTable) (w : Word) (t : Spanned) → Extends old new → IsWordOf old w t → IsWordOf new w t
word_kept old new w t e h = rw e.1 (h.0 ∙ sym (kind_append old e.0 w.kind h.1), known_append old e.0 w.kind h.1)

words_kept : (old new : NameTable) (ws : List Word) (ts : List Spanned) → Extends old new → AreWordsOf old ws ts → AreWordsOf new ws ts
words_kept old new [] [] e h = tt
words_kept old new [] (t ∷ ts) e h = absurd h
words_kept old new (w ∷ ws) [] e h = absurd h
words_kept old new (w ∷ ws) (t ∷ ts) e h = (word_kept old new w t e h.0, words_kept old new ws ts e h.1)

words_more : (names : NameTable) (ws : List Word) (ts : List Spanned) (w : Word) (t : Spanned) → AreWordsOf names ws ts → IsWordOf names w t → AreWordsOf names (ws ++ w ∷ []) (ts ++ t ∷ [])
words_more names [] [] w t h k = (k, tt)
words_more names [] (u ∷ ts) w t h k = absurd h
words_more names (v ∷ ws) [] w t h k = absurd h
words_more names (v ∷ ws) (u ∷ ts) w t h k = (h.0, words_more names ws ts w t h.1 k)

before_append : (ts : List Spanned) (t : Spanned) (a : Answer) → before ts (before (t ∷ []) a) ≡ before (ts ++ t ∷ []) a
before_append ts t (Ok more) = ap Ok (sym (append_assoc ts (t ∷ []) more))
before_append ts t (Err e) = refl

before_none : (a : Answer) → a ≡ before [] a
before_none (Ok more) = refl
before_none (Err e) = refl

pub adds_none : (names : NameTable) (list : List Word) (a : Answer) → AddsWords names list a list a
adds_none names list a = ([], [], sym (append-nil list), tt, before_none a)

pub adds_more : (names new : NameTable) (old list list' : List Word) (a b c : Answer) (w : Word) (t : Spanned) → AddsWords names old a list b → Extends names new → IsWordOf new w t → b ≡ before (t ∷ []) c → list' ≡ list ++ w ∷ [] → AddsWords new old a list' c
adds_more names new old list list' a b c w t h e k m l = (
  h.0 ++ w ∷ [],
  h.1 ++ t ∷ [],
  l ∙ (ap (λ x. x ++ w ∷ []) h.2 ∙ append_assoc old h.0 (w ∷ [])),
  words_more new h.0 h.1 w t (words_kept names new h.0 h.1 e h.3) k,
  h.4 ∙ (ap (before h.1) m ∙ before_append h.1 t c),
)

pub adds_kept : (names new : NameTable) (old list : List Word) (a b c : Answer) → AddsWords names old a list b → Extends names new → b ≡ c → AddsWords new old a list c
adds_kept names new old list a b c h e m = (h.0, h.1, h.2, words_kept names new h.0 h.1 e h.3, h.4 ∙ ap (before h.1) m)

-- the fault is ahead at first too
pub fault_ahead : (names : NameTable) (old list : List Word) (a b c : Answer) (e : TokenError) → AddsWords names old a list b → IsFault e b c → IsFault e a a
fault_ahead names old list a b c OutOfMemory h f = tt
fault_ahead names old list a b c TooLong h f = absurd f
fault_ahead names old list a b c (NotAscii n) h f = (h.4 ∙ ap (before h.1) f.0, h.4 ∙ ap (before h.1) f.0)
fault_ahead names old list a b c (BadByte n) h f = (h.4 ∙ ap (before h.1) f.0, h.4 ∙ ap (before h.1) f.0)

-- a plain character more
pub adds_plain : (names : NameTable) (old list list' : List Word) (a b c : Answer) (w : Word) (code at : ℕ) → AddsWords names old a list b → w.kind ≡ Char code → b ≡ before (record { kind = CharKind code; start = at; end = at + 1 } ∷ []) c → list' ≡ list ++ w ∷ [] → AddsWords names old a list' c
adds_plain names old list list' a b c w code at h is m l = adds_more names names old list list' a b c w (record { kind = CharKind code; start = at; end = at + 1 }) h (keeps_itself names) (rw is (refl, tt)) m l

words_append : (names : NameTable) (ws vs : List Word) (ts us : List Spanned) → AreWordsOf names ws ts → AreWordsOf names vs us → AreWordsOf names (ws ++ vs) (ts ++ us)
words_append names [] vs [] us h k = k
words_append names [] vs (t ∷ ts) us h k = absurd h
words_append names (w ∷ ws) vs [] us h k = absurd h
words_append names (w ∷ ws) vs (t ∷ ts) us h k = (h.0, words_append names ws vs ts us h.1 k)

before_all : (ts us : List Spanned) (a : Answer) → before ts (before us a) ≡ before (ts ++ us) a
before_all ts us (Ok more) = ap Ok (sym (append_assoc ts us more))
before_all ts us (Err e) = refl

-- words are added twice
pub adds_all : (names : NameTable) (old list list' : List Word) (a b c : Answer) → AddsWords names old a list b → AddsWords names list b list' c → AddsWords names old a list' c
adds_all names old list list' a b c h k = (
  h.0 ++ k.0,
  h.1 ++ k.1,
  k.2 ∙ (ap (λ x. x ++ k.0) h.2 ∙ append_assoc old h.0 k.0),
  words_append names h.0 k.0 h.1 k.1 h.3 k.3,
  h.4 ∙ (ap (before h.1) k.4 ∙ before_all h.1 k.1 c),
)
