-- Which columns of a long line are shown (`shown_window`).
use Rattle.std.specs.Prelude.{ℕ, ◌-◌, min, nat_le, if◌then◌else◌}
use Rattle.mt_explain.specs.declared.window.Window.{Window}

-- so many columns at most
abbrev pub widest_shown : ℕ
widest_shown = 120

-- so many of them before the one that is meant, where the line is cut on both sides
abbrev pub shown_before : ℕ
shown_before = 80

-- the columns of a line of so many bytes that are shown, where one is meant, counted from 1
abbrev pub shown_window : ℕ → ℕ → Window
shown_window size column = if nat_le size widest_shown
    then record { before = 0; count = size }
    else record { before = min (column - 1 - shown_before) (size - widest_shown); count = widest_shown }
