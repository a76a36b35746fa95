-- The numbers of words (`decimal_between`).
use Rattle.std.specs.Prelude.{ℕ, List, length, Bool, ◌&&◌, nat_le, if◌then◌else◌, Option, Some, None}
use Rattle.std.specs.Char.{is_ascii_digit}
use Rattle.std.specs.List.{list_all}
use Rattle.std.specs.Str.Parse.{digits_value}

-- one digit or more, and nothing else
abbrev pub has_digits_alone : List ℕ → Bool
has_digits_alone word = nat_le 1 (length word) && list_all is_ascii_digit word

-- the number of a numeral, from `low` to `high`
abbrev pub decimal_between : ℕ → ℕ → List ℕ → Option ℕ
decimal_between low high word =
    if has_digits_alone word && (nat_le low (digits_value 10 word) && nat_le (digits_value 10 word) high) then Some (digits_value 10 word) else None
