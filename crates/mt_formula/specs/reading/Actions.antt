-- What the reading of an action answers.
use Rattle.std.specs.Prelude.{◌≡◌, map, ℕ, ◌<◌, ◌≤◌, Bool, true, false, List, Option, Some, None, Result, Ok, Err, ⊤}
use Rattle.std.specs.Borrow.{Bor}
use Rattle.mt_token.specs.declared.token.Token.{Token}
use Rattle.mt_scan.specs.declared.fault.Fault.{Fault as FaultFields}
use Rattle.mt_scan.specs.declared.fault.ReadCause.TheVariants.{TooDeep}
use Rattle.mt_scan.specs.declared.scanned.Scanned.{Scanned}
use Rattle.mt_scan.specs.Limits.{max_groups}
use Rattle.mt_scan.specs.Parts.{Read, Got, Fault}
use Rattle.mt_formula.specs.declared.actions.action.Action.{Action}
use Rattle.mt_formula.specs.declared.actions.action.Action.TheVariants.{Choice, Group, LeftRight, Root, ScriptGroup, Stop}

-- one more group may be open, or the token that opens it is at fault
abbrev pub AllowsGroup : Result (Unit {0}) FaultFields → ℕ → ℕ → Type 0
AllowsGroup (Ok done) level left = level < max_groups
AllowsGroup (Err fault) level left = (max_groups ≤ level) × (fault.cause ≡ TooDeep) × (fault.left ≡ left)

-- the items after what opens a group, each of which is read as a token, or its fault
abbrev pub Opens : {T : Type 0} → (T → Token) → Result (Bor (List T)) FaultFields → Read ⊤ → Type 0
Opens token (Ok inside) read = read ≡ Got tt (map token inside.now)
Opens token (Err fault) read = read ≡ Fault fault.cause fault.left

-- how many tokens an action takes at least
abbrev pub spent : Action → ℕ
spent Stop = 0
spent _ = 1

-- the result is what is read, or there is no item
abbrev pub MeetsUnlessStop : {T : Type 0} → (T → Token) → Result (Option (Scanned Action T)) FaultFields → Read Action → List Token → Type 0
MeetsUnlessStop token (Ok (Some part)) read tokens = read ≡ Got part.value (map token part.rest.now)
MeetsUnlessStop token (Ok None) read tokens = read ≡ Got Stop tokens
MeetsUnlessStop token (Err fault) read tokens = read ≡ Fault fault.cause fault.left

-- the next list is in a group of this one
abbrev pub opens_list : Action → Bool
opens_list (Group kind) = true
opens_list (ScriptGroup side) = true
opens_list (LeftRight left) = true
opens_list Choice = true
opens_list Root = true
opens_list _ = false
