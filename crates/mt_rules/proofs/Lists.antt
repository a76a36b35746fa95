-- A list of items, rows or rows of a table, and what it is seen as.
use Rattle.std.proofs.Common.{◌≡◌, ◌↔◌, IsTrue, Bool, true, false, ◌==◌, ℕ, zero, suc, List, [], ◌∷◌, length, slice_get, refl, arith}
use Rattle.std.specs.Option.{option_map}
use Rattle.mt_rules.specs.declared.list.Item.{Item}
use Rattle.mt_rules.specs.Sequence.{Sequence, Rows, End, NoRows, NoTableRows, sequence_length, element_at, rows_length, row_at, grid_length, cells_at}
use Rattle.mt_rules.specs.Rows.{rows_of, grid_of}
use Rattle.mt_rules.specs.View.{sequence_of, element_of}

pub sequence_length_of : (is : List Item) → sequence_length (sequence_of is) ≡ length is
sequence_length_of [] = omega arith
sequence_length_of (i ∷ is) = omega (arith, sequence_length_of is)

pub element_at_of : (is : List Item) (n : ℕ) → option_map element_of (slice_get is n) ≡ element_at (sequence_of is) n
element_at_of [] n = refl
element_at_of (i ∷ is) zero = refl
element_at_of (i ∷ is) (suc n) = element_at_of is n

pub rows_length_of : (ss : List Sequence) → rows_length (rows_of ss) ≡ length ss
rows_length_of [] = omega arith
rows_length_of (s ∷ ss) = omega (arith, rows_length_of ss)

pub row_at_of : (ss : List Sequence) (n : ℕ) → slice_get ss n ≡ row_at (rows_of ss) n
row_at_of [] n = refl
row_at_of (s ∷ ss) zero = refl
row_at_of (s ∷ ss) (suc n) = row_at_of ss n

pub sequence_empty : (is : List Item) (b : Bool) → b ≡ (length is == 0) → IsTrue b ↔ (sequence_of is ≡ End)
sequence_empty [] true e = grind arith
sequence_empty [] false e = grind arith
sequence_empty (i ∷ is) true e = grind arith
sequence_empty (i ∷ is) false e = grind arith

pub rows_empty : (ss : List Sequence) (b : Bool) → b ≡ (length ss == 0) → IsTrue b ↔ (rows_of ss ≡ NoRows)
rows_empty [] true e = grind arith
rows_empty [] false e = grind arith
rows_empty (s ∷ ss) true e = grind arith
rows_empty (s ∷ ss) false e = grind arith

pub grid_length_of : (rs : List Rows) → grid_length (grid_of rs) ≡ length rs
grid_length_of [] = omega arith
grid_length_of (r ∷ rs) = omega (arith, grid_length_of rs)

pub cells_at_of : (rs : List Rows) (n : ℕ) → slice_get rs n ≡ cells_at (grid_of rs) n
cells_at_of [] n = refl
cells_at_of (r ∷ rs) zero = refl
cells_at_of (r ∷ rs) (suc n) = cells_at_of rs n

pub grid_empty : (rs : List Rows) (b : Bool) → b ≡ (length rs == 0) → IsTrue b ↔ (grid_of rs ≡ NoTableRows)
grid_empty [] true e = grind arith
grid_empty [] false e = grind arith
grid_empty (r ∷ rs) true e = grind arith
grid_empty (r ∷ rs) false e = grind arith
