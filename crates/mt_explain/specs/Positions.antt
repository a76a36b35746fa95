-- Where a byte of a text is (`position_of`), and the line that it is in (`line_at`).
use Rattle.std.specs.Prelude.{ℕ, ◌+◌, ◌-◌, ◌==◌, List, [], ◌∷◌, take, drop, nat_eq, if◌then◌else◌}
use Rattle.std.specs.List.{fold, count_by}
use Rattle.mt_explain.specs.declared.position.Position.{Position}

-- lines count from 1: a line begins after each line feed
abbrev pub line_number : List ℕ → ℕ → ℕ
line_number text offset = 1 + count_by (nat_eq 10) (take offset text)

-- the column after a byte: the first one after a line feed, and else the next one
abbrev pub column_after : ℕ → ℕ → ℕ
column_after column byte = if byte == 10 then 1 else column + 1

-- columns count bytes, from 1
abbrev pub column_of : List ℕ → ℕ → ℕ
column_of text offset = fold column_after 1 (take offset text)

abbrev pub position_of : List ℕ → ℕ → Position
position_of text offset = record { line = line_number text offset; column = column_of text offset }

-- how many bytes are before the first line feed, or all
abbrev pub before_feed : List ℕ → ℕ
before_feed [] = 0
before_feed (b ∷ rest) = if b == 10 then 0 else before_feed rest + 1

-- the line without its line feed: it begins at column 1
abbrev pub line_at : List ℕ → ℕ → List ℕ
line_at text offset =
    take (column_of text offset - 1 + before_feed (drop offset text)) (drop (offset + 1 - column_of text offset) text)
