-- The bytes of numbers, of pre and of the definitions of fonts, as a writer states them.
use Rattle.std.specs.Prelude.{ℕ, ◌-◌, ◌/◌, ◌%◌, ℤ, pos, negsuc, List, [], ◌∷◌, ◌++◌, length}
use Rattle.mt_dvi.specs.Opcodes.{fnt_def1, pre}
use Rattle.mt_dvi.specs.Codes.{Definition, four_bytes}

-- the number that the two's complement of a number from - 2^31 to 2^31 - 1 is in four bytes
abbrev pub twos_complement : ℤ → ℕ
twos_complement (pos n) = n
twos_complement (negsuc n) = 4294967295 - n

abbrev pub signed_bytes : ℤ → List ℕ
signed_bytes x = four_bytes (twos_complement x)

abbrev pub two_bytes : ℕ → List ℕ
two_bytes n = n / 256 ∷ n % 256 ∷ []

-- the fraction num / den that makes the unit a scaled point, and the magnification
abbrev pub scale_bytes : ℤ → List ℕ
scale_bytes mag = four_bytes 25400000 ++ four_bytes 473628672 ++ signed_bytes mag

-- pre, with an empty comment
abbrev pub pre_bytes : ℤ → List ℕ
pre_bytes mag = pre ∷ 2 ∷ scale_bytes mag ++ 0 ∷ []

-- fnt_def, with the number in one byte
abbrev pub definition_bytes : Definition → List ℕ
definition_bytes d =
    fnt_def1 ∷ d.number ∷ four_bytes d.checksum ++ four_bytes d.size ++ four_bytes d.design
    ++ length d.area ∷ length d.name ∷ d.area ++ d.name
