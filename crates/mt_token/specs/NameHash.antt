-- A hash of names, for tables of names.
use Rattle.std.specs.Prelude.{ℕ, ◌+◌, ◌-◌, ◌*◌, min, List, length, slice_index}

-- a number for a name, by its first two bytes, its last one and its length
abbrev pub name_hash : List ℕ → ℕ
name_hash name = 29 * slice_index name 0 + 3 * slice_index name 1 + 101 * slice_index name (length name - 1) + 67 * min (length name) 31
