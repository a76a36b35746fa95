-- The width of a line where the words give none, and how many pages and files may be named.
use Rattle.std.specs.Prelude.{ℕ, List, codes}

-- 6.5in, in sp
abbrev pub default_line : ℕ
default_line = 30785863

-- the same as a word, for `clap` (the two agree: `proofs/RequestCases.antt`)
abbrev pub default_line_word : List ℕ
default_line_word = codes "30785863"

-- the greatest number of a page in the words
abbrev pub max_page : ℕ
max_page = 65535

-- the most ranges of pages
abbrev pub max_ranges : ℕ
max_ranges = 64

-- the most DVI files that are joined
abbrev pub max_joined : ℕ
max_joined = 16
