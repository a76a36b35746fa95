-- Extents of which none is out of range.
use Rattle.std.proofs.Common.{◌≡◌, Bool, true, false, None, Some, refl, if◌then◌else◌}
use Rattle.mt_scaled.specs.Number.{is_in_range}
use Rattle.mt_box.specs.declared.extents.Extents.{Extents}
use Rattle.mt_box.specs.Extents.{ExtentsInRange, first_out}
use Rattle.mt_box.proofs.Room.{in_range}

by_tests : (e : Extents) (w h d : Bool) → is_in_range e.width ≡ w → is_in_range e.height ≡ h → is_in_range e.depth ≡ d
    → (if w then (if h then (if d then None else Some e.depth) else Some e.height) else Some e.width) ≡ None → ExtentsInRange e
by_tests e true true true wide high deep none = record { width = in_range e.width wide; height = in_range e.height high; depth = in_range e.depth deep }
by_tests e true true false wide high deep none = absurd (cc)
by_tests e true false d wide high deep none = absurd (cc)
by_tests e false h d wide high deep none = absurd (cc)

pub none_out : (e : Extents) → first_out e ≡ None → ExtentsInRange e
none_out e none = by_tests e (is_in_range e.width) (is_in_range e.height) (is_in_range e.depth) refl refl refl none
