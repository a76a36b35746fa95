-- What readers of parts answer.
use Rattle.std.specs.Prelude.{◌≡◌, ℕ, min, map, List, [], ◌∷◌, Option, Some, None, Result, Ok, Err}
use Rattle.std.specs.Borrow.{Bor}
use Rattle.mt_token.specs.declared.token.Token.{Token}
use Rattle.mt_scan.specs.Limits.{size_cap}
use Rattle.mt_scan.specs.declared.fault.Fault.{Fault as FaultFields}
use Rattle.mt_scan.specs.declared.scanned.Scanned.{Scanned}
use Rattle.mt_scan.specs.Parts.{Read, Got, Fault, NoTurn}
use Rattle.mt_scan.specs.Numbers.{Whole, digit_of, at_digit}

-- the result is what is read
abbrev pub Meets : {A : Type 0} → Result (Scanned A Token) FaultFields → Read A → Type 0
Meets (Ok part) read = read ≡ Got part.value part.rest.now
Meets (Err fault) read = read ≡ Fault fault.cause fault.left

-- the same where items are left, each of which is read as a token
abbrev pub MeetsBy : {A T : Type 0} → (T → Token) → Result (Scanned A T) FaultFields → Read A → Type 0
MeetsBy token (Ok part) read = read ≡ Got part.value (map token part.rest.now)
MeetsBy token (Err fault) read = read ≡ Fault fault.cause fault.left

-- the same, where all values above 2^31 - 1 count as 2^31
abbrev pub capped : Read ℕ → Read ℕ
capped (Got value rest) = Got (min value size_cap) rest
capped (Fault cause left) = Fault cause left
capped NoTurn = NoTurn

-- the digits in front, after digits of a size, where all sizes above 2^31 - 1 count as 2^31
abbrev pub capped_digits : ℕ → ℕ → List Token → Whole
capped_digits base size [] = record { value = size; rest = [] }
capped_digits base size (t ∷ rest) = at_digit (digit_of base t) base size (t ∷ rest) (λ (v : ℕ). capped_digits base (min v size_cap) rest)

-- the tokens that are lent, if there are any
abbrev pub IsAfter : Option (Bor (List Token)) → Option (List Token) → Type 0
IsAfter None after = after ≡ None
IsAfter (Some rest) after = after ≡ Some rest.now

-- the same of items that are lent, each of which is read as a token
abbrev pub IsAfterBy : {T : Type 0} → (T → Token) → Option (Bor (List T)) → Option (List Token) → Type 0
IsAfterBy token None after = after ≡ None
IsAfterBy token (Some rest) after = after ≡ Some (map token rest.now)
