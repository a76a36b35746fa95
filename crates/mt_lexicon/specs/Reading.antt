-- Words that are read from a source.
use Rattle.std.specs.Prelude.{◌≡◌, ℕ, ◌<◌, ◌≤◌, List, [], ◌∷◌, Option, Some, None, Result, Ok, Err}
use Rattle.mt_token.specs.declared.token.TokenError.{TokenError}
use Rattle.mt_token.specs.declared.token.TokenError.TheVariants.{TooLong, OutOfMemory}
use Rattle.mt_token.specs.Tokens.{Spanned, Answer, before}
use Rattle.mt_lexicon.specs.declared.word.Word.{Word}
use Rattle.mt_lexicon.specs.Meaning.{NameTable, kind_of, Known}

-- the word has the kind of the token, and its name, if it has one, is in the table
abbrev pub IsWordOf : NameTable → Word → Spanned → Type 0
IsWordOf names w t = (t.kind ≡ kind_of names w.kind) × Known names w

-- the words have the kinds of the tokens, one by one
abbrev pub AreWordsOf : NameTable → List Word → List Spanned → Type 0
AreWordsOf names [] [] = Unit {0}
AreWordsOf names [] (t ∷ ts) = ⊥
AreWordsOf names (w ∷ ws) [] = ⊥
AreWordsOf names (w ∷ ws) (t ∷ ts) = IsWordOf names w t × AreWordsOf names ws ts

-- the fault is ahead of a cursor before and after a step, or memory ran out
abbrev pub IsFault : TokenError → Answer → Answer → Type 0
IsFault OutOfMemory old new = Unit {0}
IsFault TooLong old new = ⊥
IsFault error old new = (old ≡ Err error) × (new ≡ Err error)

-- a step of a cursor, by what is ahead of it and its offset before and after: the word of the next token, the end, or
-- the fault
abbrev pub StepsWord : NameTable → Result (Option Word) TokenError → Answer → ℕ → Answer → ℕ → Type 0
StepsWord names (Ok (Some w)) old from new to =
    (t : Spanned) × IsWordOf names w t × (old ≡ before (t ∷ []) new) × (from ≤ t.start) × (t.start < t.end) × (t.end ≡ to)
StepsWord names (Ok None) old from new to = (old ≡ Ok []) × (new ≡ Ok [])
StepsWord names (Err e) old from new to = IsFault e old new
