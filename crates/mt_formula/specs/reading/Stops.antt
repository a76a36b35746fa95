-- A stop in an argument, as one in all the tokens (`IsBehind`).
use Rattle.std.specs.Prelude.{◌≡◌, ℕ, ◌+◌, ◌-◌, ◌^◌, min, ⊤}
use Rattle.mt_formula.specs.declared.reading.stop.Stop.{Stop}
use Rattle.mt_formula.specs.declared.reading.stop.Stop.TheVariants.{Fault as AtFault, OutOfMemory}
use Rattle.mt_scan.specs.Parts.{Read, Fault}

-- a number that does not fit is the last one
abbrev pub fitting : ℕ → ℕ
fitting n = min n (2 ^ 64 - 1)

-- the fault of what is read, where so many tokens are left
abbrev pub HasFault : {A : Type 0} → Stop → Read A → Type 0
HasFault (AtFault fault) read = (left : ℕ) × (read ≡ Fault fault.cause left) × (fault.left ≡ fitting left)
HasFault OutOfMemory read = ⊤

-- so many tokens are behind those of the argument
abbrev pub IsBehind : Stop → ℕ → Stop → Type 0
IsBehind (AtFault fault) behind (AtFault all) = (all.cause ≡ fault.cause) × (all.left ≡ fitting (fault.left + behind))
IsBehind OutOfMemory behind OutOfMemory = ⊤
IsBehind _ behind _ = ⊥
