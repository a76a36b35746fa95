-- How long runs are.
use Rattle.std.specs.Prelude.{ℕ, ◌-◌, Bool, true, false}
use Rattle.mt_macro.specs.declared.run.Run.{Run}
use Rattle.mt_macro.specs.declared.run.Place.{Place}
use Rattle.mt_macro.specs.declared.run.Place.TheVariants.{Given, Body, Argument, Remainder}

abbrev pub len_at : Place → ℕ → ℕ → ℕ
len_at Given start end = end - start
len_at (Body c) start end = end - start
len_at (Argument count) start end = count
len_at (Remainder count) start end = count

-- how many tokens a run has
abbrev pub run_len : Run → ℕ
run_len r = len_at r.place r.start r.end

-- whether its items are parts of an argument
abbrev pub is_opened : Place → Bool
is_opened Given = false
is_opened (Body c) = false
is_opened (Argument count) = true
is_opened (Remainder count) = true

-- whether it is what is left of an argument
abbrev pub is_remainder : Place → Bool
is_remainder Given = false
is_remainder (Body c) = false
is_remainder (Argument count) = false
is_remainder (Remainder count) = true

-- a run of items of the list given or of a body
abbrev pub IsBasic : Place → Type 0
IsBasic Given = Unit {0}
IsBasic (Body c) = Unit {0}
IsBasic (Argument count) = ⊥
IsBasic (Remainder count) = ⊥

-- a run that is not what is left of an argument
abbrev pub IsWhole : Place → Type 0
IsWhole Given = Unit {0}
IsWhole (Body c) = Unit {0}
IsWhole (Argument count) = Unit {0}
IsWhole (Remainder count) = ⊥

abbrev pub depth_at : Place → ℕ → ℕ
depth_at Given end = 0
depth_at (Body c) end = 0
depth_at (Argument count) end = end
depth_at (Remainder count) end = end

-- of how many parts the run may have some
abbrev pub depth : Run → ℕ
depth r = depth_at r.place r.end
