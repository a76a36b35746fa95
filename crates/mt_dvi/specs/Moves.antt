-- How an amount is moved by (`move_form`), and how many bytes state it (`least_size`).
use Rattle.std.specs.Prelude.{ℕ, ℤ, pos, ◌-ℤ◌, Bool, int_lt, int_le, ◌&&◌, if◌then◌else◌}
use Rattle.std.specs.Ordering.{int_eq}
use Rattle.mt_dvi.specs.declared.moves.MoveForm.{MoveForm}
use Rattle.mt_dvi.specs.declared.moves.MoveForm.TheVariants.{None, First, Second, Bytes}

-- at least - n, and below n
abbrev pub fits_signed : ℕ → ℤ → Bool
fits_signed n z = int_le (pos 0 -ℤ pos n) z && int_lt z (pos n)

-- the least number of bytes that hold an amount as a signed number, where four hold it
abbrev pub least_size : ℤ → ℕ
least_size z =
    if fits_signed 128 z then 1
    else if fits_signed 32768 z then 2
    else if fits_signed 8388608 z then 3
    else 4

-- no move for 0, then a register that holds the amount, and else the amount in as few bytes as hold it
abbrev pub move_form : ℤ → ℤ → ℤ → MoveForm
move_form amount first second =
    if int_eq amount (pos 0) then None
    else if int_eq amount first then First
    else if int_eq amount second then Second
    else Bytes (least_size amount)
