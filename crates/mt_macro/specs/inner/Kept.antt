-- What the macros keep.
use Rattle.std.specs.Prelude.{◌≡◌, ℕ, ◌≤◌, ◌^◌, true, List, All, length}
use Rattle.std.specs.Map.{keys_of, values_of}
use Rattle.std.specs.List.Sorted.{IsStrictlySortedBy}
use Rattle.std.specs.Cmp.Lexicographic.{slice_cmp}
use Rattle.std.specs.Ordering.{nat_cmp}
use Rattle.mt_macro.specs.declared.table.Macro.{Macro}
use Rattle.mt_macro.specs.Table.{Table, own_count}
use Rattle.mt_macro.specs.declared.name_marks.NameMarks.{NameMarks}
use Rattle.mt_macro.specs.inner.Marks.{has_mark}

-- a body whose tokens can be counted
abbrev pub HasShortBody : Macro → Type 0
HasShortBody m = length m.body ≤ 2 ^ 32

-- what holds of the macros beside a count of the user's own names and marks of names
pub record IsKept (table : Table) (own_names : ℕ) (marks : NameMarks) : Type 0 where
  pub counted : own_names ≡ own_count table
  pub short : All HasShortBody (values_of table)
  pub marked : All (λ (name : List ℕ). has_mark marks name ≡ true) (keys_of table)
  pub sorted : IsStrictlySortedBy (slice_cmp nat_cmp) (keys_of table)
