-- A table of names by slots, in which a name is sought in its slot alone.
use Rattle.std.specs.Prelude.{◌≡◌, ℕ, ◌+◌, ◌-◌, ◌%◌, Bool, true, ◌&&◌, nat_le, List, [], ◌∷◌, map, length, take, drop, get_or, Option, None, Some, if◌then◌else◌}
use Rattle.std.specs.List.{list_all, range_with_len}
use Rattle.std.specs.Option.{is_some}
use Rattle.std.specs.Str.{bytes_eq}
use Rattle.mt_token.specs.NameHash.{name_hash}
use Rattle.mt_plain.specs.declared.meaning.Meaning.{Meaning}
use Rattle.mt_plain.specs.Names.{NameRow, row_name, control, meanings}

-- the meaning in the first of these rows that has the name
abbrev pub in_rows : List NameRow → List ℕ → Option Meaning
in_rows [] name = None
in_rows (row ∷ rest) name = if bytes_eq (row_name row) name then Some row.1 else in_rows rest name

abbrev pub slot_count : ℕ
slot_count = 512

-- the slot of a name
abbrev pub slot_of : List ℕ → ℕ
slot_of name = name_hash name % slot_count

abbrev pub start_of : List ℕ → ℕ → ℕ
start_of starts slot = get_or starts slot 0

-- the rows of a slot
abbrev pub rows_in : List NameRow → List ℕ → ℕ → List NameRow
rows_in rows starts slot = take (start_of starts (slot + 1) - start_of starts slot) (drop (start_of starts slot) rows)

-- the rows of a slot are there
abbrev pub is_slot : List NameRow → List ℕ → ℕ → Bool
is_slot rows starts slot = nat_le (start_of starts slot) (start_of starts (slot + 1)) && nat_le (start_of starts (slot + 1)) (length rows)

-- each row has the meaning of its name, and each name that means something is in its slot
pub record AreBuckets (rows : List NameRow) (starts : List ℕ) : Type 0 where
  pub count : length starts ≡ slot_count + 1
  pub slots : list_all (is_slot rows starts) (range_with_len 0 slot_count) ≡ true
  pub right : map (λ (row : NameRow). control (row_name row)) rows ≡ map (λ (row : NameRow). Some row.1) rows
  pub whole : list_all (λ (e : List ℕ × Meaning). is_some (in_rows (rows_in rows starts (slot_of e.0)) e.0)) meanings ≡ true
