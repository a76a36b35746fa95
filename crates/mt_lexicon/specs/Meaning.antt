-- The tokens that words are read as.
use Rattle.std.specs.Prelude.{◌≡◌, ℕ, ◌<◌, List, [], ◌∷◌, ◌++◌, slice_get, length, Option, Some, None, false}
use Rattle.std.specs.List.{list_any}
use Rattle.std.specs.Str.{bytes_eq}
use Rattle.mt_token.specs.declared.token.Token.{Token}
use Rattle.mt_token.specs.declared.token.TokenKind.{TokenKind}
use Rattle.mt_token.specs.declared.token.TokenKind.TheVariants.{Control, Char, Space}
use Rattle.mt_token.specs.Character.{character_code}
use Rattle.mt_lexicon.specs.declared.word.WordKind.{WordKind}
use Rattle.mt_lexicon.specs.declared.word.WordKind.TheVariants.{Name as NameWord, Char as CharWord, Space as SpaceWord}
use Rattle.mt_lexicon.specs.declared.word.Word.{Word}
use Rattle.mt_lexicon.specs.Code.{word_code, name_number}

-- names by their numbers
abbrev pub NameTable : Type 0
NameTable = List (List ℕ)

abbrev pub named_kind : Option (List ℕ) → TokenKind
named_kind None = Space
named_kind (Some name) = Control name

-- the kind of a word; a number that no name has is read as a Space
abbrev pub kind_of : NameTable → WordKind → TokenKind
kind_of names (NameWord high low) = named_kind (slice_get names (name_number high low))
kind_of names (CharWord c) = Char c
kind_of names SpaceWord = Space

abbrev pub named_ascii : (name : Option (List ℕ)) → 0 < 128 → character_code (named_kind name) < 128
named_ascii None h = h
named_ascii (Some name) h = h

abbrev pub ascii_of : (names : NameTable) (w : WordKind) → word_code w < 128 → character_code (kind_of names w) < 128
ascii_of names (NameWord high low) h = named_ascii (slice_get names (name_number high low)) h
ascii_of names (CharWord c) h = h
ascii_of names SpaceWord h = h

-- the token that a word is read as, at no place
abbrev pub token_of : NameTable → Word → Token
token_of names w = record { kind = kind_of names w.kind; start = 0; end = 0; ascii = ascii_of names w.kind w.ascii }

-- a name, if the word is one, is in the table
abbrev pub KnownKind : NameTable → WordKind → Type 0
KnownKind names (NameWord high low) = name_number high low < length names
KnownKind names (CharWord c) = Unit {0}
KnownKind names SpaceWord = Unit {0}

abbrev pub Known : NameTable → Word → Type 0
Known names w = KnownKind names w.kind

-- a table with more names behind those that it has
abbrev pub Extends : NameTable → NameTable → Type 0
Extends old new = (more : NameTable) × (new ≡ old ++ more)

-- no name is there twice
abbrev pub IsDistinct : NameTable → Type 0
IsDistinct [] = Unit {0}
IsDistinct (n ∷ ns) = (list_any (bytes_eq n) ns ≡ false) × IsDistinct ns
