-- What the reader's machine does (`Performs`).
use Rattle.std.specs.Prelude.{◌≡◌, ℤ, ◌+ℤ◌, false, Option, Some, Result, Ok, Err, IfSome, Bool, true, if◌then◌else◌, ◌||◌}
use Rattle.std.specs.Option.{option_map}
use Rattle.mt_box.specs.declared.place.Place.{Place}
use Rattle.mt_dvi.specs.Codes as codes
use Rattle.mt_dvi.specs.Machine as machine
use Rattle.mt_dvi.specs.Machine.{Machine, Effects, WrittenPlace, is_far, is_outside}
use Rattle.mt_dviread.specs.declared.error.Cause.{Cause}
use Rattle.mt_dviread.specs.declared.error.Cause.TheVariants as causes
use Rattle.mt_dviread.specs.declared.deed.Mark.{Mark}
use Rattle.mt_dviread.specs.declared.machine.Registers.{Registers}
use Rattle.mt_dviread.specs.Errors.{cause_of}

abbrev pub registers_of : Registers → machine.Registers
registers_of r = record { h = r.h.sp; v = r.v.sp; w = r.w; x = r.x; y = r.y; z = r.z }

abbrev pub are_outside : machine.Registers → Bool
are_outside r = is_far r.h || is_far r.v

-- the registers after a move, or that it leads out of range
abbrev pub MovesTo : Result Registers Cause → machine.Registers → Type 0
MovesTo (Ok now) meant = registers_of now ≡ meant
MovesTo (Err cause) meant = (cause ≡ causes.OutOfRange) × (are_outside meant ≡ true)

-- one register set, and a move by one
abbrev pub registers_with : machine.Registers → codes.Register → ℤ → machine.Registers
registers_with r codes.W by = record r { w = by }
registers_with r codes.X by = record r { x = by }
registers_with r codes.Y by = record r { y = by }
registers_with r codes.Z by = record r { z = by }

abbrev pub registers_moved : machine.Registers → codes.Register → machine.Registers
registers_moved r codes.W = record r { h = r.h +ℤ r.w }
registers_moved r codes.X = record r { h = r.h +ℤ r.x }
registers_moved r codes.Y = record r { v = r.v +ℤ r.y }
registers_moved r codes.Z = record r { v = r.v +ℤ r.z }

-- the machine after a move, or that it leads out of range
abbrev pub MovesMachine : Result Unit Cause → Machine → Machine → Type 0
MovesMachine (Ok done) new meant = (new ≡ meant) × (is_outside meant ≡ false)
MovesMachine (Err cause) new meant = (cause ≡ causes.OutOfRange) × (is_outside meant ≡ true)

-- a machine with these registers
abbrev pub with_registers : Machine → machine.Registers → Machine
with_registers m now = record m { now = now }

-- what is seen of an operation's effect: the machine after it, and the place that it fills
pub record Seen : Type 0 where
  pub machine : Machine
  pub place : Option Place

abbrev pub place_of : Option WrittenPlace → Option Place
place_of written = option_map (λ (w : WrittenPlace). w.place) written

abbrev pub seen : Effects → Result Seen machine.Cause
seen (Err cause) = Err cause
seen (Ok effect) =
    if is_outside effect.machine then Err machine.OutOfRange
    else Ok (record { machine = effect.machine; place = place_of effect.place })

-- the result, and the machine after it, are those of these effects
abbrev pub Performs : Result (Option Place) Cause → Machine → Effects → Type 0
Performs (Ok place) new effects = seen effects ≡ Ok (record { machine = new; place = place })
Performs (Err cause) new effects = IfSome (cause_of cause) (λ c. seen effects ≡ Err c)

-- the place of a character
abbrev pub marked : Result Mark Cause → Result (Option Place) Cause
marked (Ok mark) = Ok (Some mark.place)
marked (Err cause) = Err cause
