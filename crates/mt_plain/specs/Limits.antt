-- What a code may be.
use Rattle.std.specs.Prelude.{ℕ}

-- the greatest math code, which makes a character active (The TeXbook, chapter 17)
abbrev pub max_math_code : ℕ
max_math_code = 32768

-- the greatest delimiter code, 2^24 - 1
abbrev pub max_delimiter_code : ℕ
max_delimiter_code = 16777215
