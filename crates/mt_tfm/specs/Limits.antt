-- How long a TFM file and its tables may be, and how far a font may be scaled.
use Rattle.std.specs.Prelude.{ℕ}

-- each count of a table is below this, 2^15 (tex.web, section 565)
abbrev pub count_limit : ℕ
count_limit = 32768

-- the most thousandths of its design size that a font may be wanted at (tex.web, section 1258)
abbrev pub max_factor : ℕ
max_factor = 32768

-- the most bytes of a TFM file: its head can count no more than 32,767 words of four bytes (tex.web, sections 540 and 565)
abbrev pub max_tfm : ℕ
max_tfm = 131068
