-- Words that are added to a list.
use Rattle.std.specs.Prelude.{◌≡◌, List, ◌++◌}
use Rattle.mt_token.specs.Tokens.{Spanned, Answer, before}
use Rattle.mt_lexicon.specs.declared.word.Word.{Word}
use Rattle.mt_lexicon.specs.Meaning.{NameTable}
use Rattle.mt_lexicon.specs.Reading.{AreWordsOf}

-- a list has the words of some tokens more; these come before what is ahead of a cursor then
abbrev pub AddsWords : NameTable → List Word → Answer → List Word → Answer → Type 0
AddsWords names old a new b = (ws : List Word) × (ts : List Spanned) × (new ≡ old ++ ws) × AreWordsOf names ws ts × (a ≡ before ts b)
