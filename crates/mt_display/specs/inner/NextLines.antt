-- What the lines so far leave for the next one, and what that one adds (`AddsLine`).
use Rattle.std.specs.Prelude.{◌≡◌, ℕ, ◌+◌, ◌-◌, ◌*◌, ◌^◌, ◌≤◌, List, ◌++◌, length, Option, Some, None, Result, Ok, Err, ⊤}
use Rattle.mt_scaled.specs.Number.{Within, max_dimen}
use Rattle.mt_box.specs.declared.place.Place.{Place}
use Rattle.mt_box.specs.declared.error.PlaceError.{PlaceError}
use Rattle.mt_box.specs.Placing.{first_place_fault}
use Rattle.mt_display.specs.declared.error.StackError.{StackError}
use Rattle.mt_display.specs.declared.error.StackError.TheVariants.{OutOfMemory}
use Rattle.mt_display.specs.declared.stack.LineAbove.{LineAbove}
use Rattle.mt_display.specs.declared.stack.NextLine.{NextLine}
use Rattle.mt_display.specs.Lines.{LineValue}
use Rattle.mt_display.specs.Stack.{AboveValue, fault_in_line, line_places, next_above, reference_below}

abbrev pub above_value : Option LineAbove → Option AboveValue
above_value None = None
above_value (Some a) = Some (record { bottom = a.bottom.sp; depth = a.depth.sp })

abbrev pub IsNearAbove : ℕ → Option LineAbove → Type 0
IsNearAbove line None = ⊤
IsNearAbove line (Some a) = Within (2 ^ 33 * line) a.bottom.sp × Within max_dimen a.depth.sp

-- after so many lines the bottom of the last one is no farther out than this
abbrev pub IsNear : NextLine → Type 0
IsNear next = IsNearAbove next.line next.above

abbrev pub IsFaultOf : ℕ → Option PlaceError → StackError → Type 0
IsFaultOf line None e = ⊥
IsFaultOf line (Some fault) e = e ≡ fault_in_line line fault

-- the places of a line after those before, or its first fault
abbrev pub AddsLine : ℕ → NextLine → List Place → LineValue → Result NextLine StackError → List Place → Type 0
AddsLine room here before l (Ok next) now =
    (now ≡ before ++ line_places (reference_below (above_value here.above) l) l)
    × (length now ≤ room)
    × (first_place_fault (room - length before) (line_places (reference_below (above_value here.above) l) l) ≡ None)
    × (next.line ≡ here.line + 1)
    × (above_value next.above ≡ Some (next_above (above_value here.above) l))
    × IsNear next
AddsLine room here before l (Err OutOfMemory) now = ⊤
AddsLine room here before l (Err e) now =
    IsFaultOf here.line (first_place_fault (room - length before) (line_places (reference_below (above_value here.above) l) l)) e
