-- The character that a word is, and the number of its name.
use Rattle.std.specs.Prelude.{◌≡◌, ℕ, ◌+◌, ◌*◌}
use Rattle.mt_lexicon.specs.declared.word.WordKind.{WordKind}
use Rattle.mt_lexicon.specs.declared.word.WordKind.TheVariants.{Name, Char, Space}

-- its ASCII code, 0 where the word is no character
abbrev pub word_code : WordKind → ℕ
word_code (Name high low) = 0
word_code (Char c) = c
word_code Space = 0

-- the number of a name, by its two parts
abbrev pub name_number : ℕ → ℕ → ℕ
name_number high low = high * 65536 + low

-- the word is the name with this number
abbrev pub IsName : WordKind → ℕ → Type 0
IsName (Name high low) n = name_number high low ≡ n
IsName (Char c) n = ⊥
IsName Space n = ⊥
