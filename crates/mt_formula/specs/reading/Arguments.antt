-- The argument after primes and ^, as the code takes it (`argument_in`).
use Rattle.std.specs.Prelude.{◌≡◌, map, ℕ, List, [], ◌∷◌, length, Option, Some, None, Result, Ok, Err, if◌then◌else◌}
use Rattle.mt_token.specs.declared.token.Token.{Token}
use Rattle.mt_scaled.specs.declared.unit.Units.{Units}
use Rattle.mt_plain.specs.CodeTables.{CodeTables}
use Rattle.mt_rules.specs.Sequence.{Sequence}
use Rattle.mt_scan.specs.declared.fault.Fault.{Fault as FaultFields}
use Rattle.mt_scan.specs.declared.fault.ReadCause.TheVariants.{Unbalanced}
use Rattle.mt_scan.specs.Role.{role_of, is_superscript}
use Rattle.mt_scan.specs.Parts.{Read, Fault, then_read, after_spaces}
use Rattle.mt_formula.specs.declared.reading.argument.ScriptArgument.{ScriptArgument}
use Rattle.mt_formula.specs.declared.reading.argument.ArgumentEnd.{ArgumentEnd}
use Rattle.mt_formula.specs.declared.reading.argument.ArgumentEnd.TheVariants.{Closed, Missing}
use Rattle.mt_formula.specs.Lists.{ItemRunReader}
use Rattle.mt_formula.specs.Primes.{after_primes, argument_after, argument_read}

-- the tokens after ^ and Spaces, if a ^ is in front
abbrev pub after_superscript : CodeTables → List Token → Option (List Token)
after_superscript tables [] = None
after_superscript tables (t ∷ rest) = if is_superscript (role_of tables t) then Some (after_spaces rest) else None

-- its items are read as tokens
module _ {T : Type 0} (token : T → Token) (tables : CodeTables) (units : Units) (again : ItemRunReader) (count : ℕ) where
  -- what is read of an argument that ends so
  abbrev pub argument_ended : ℕ → Option ℕ → List Token → ArgumentEnd T → Read Sequence
  argument_ended level family inside (Closed after behind) =
      argument_read tables units again count level family (record { tokens = inside; behind = behind; after = map token after.now })
  argument_ended level family inside Missing =
      then_read (after_primes tables units again count level family inside) (λ (inner : Sequence) (rest : List Token). Fault Unbalanced 0)

  abbrev pub argument_in : ScriptArgument T → Read Sequence
  argument_in a = argument_ended a.group.level a.group.family (map token a.inside.now) a.end

-- how many items are after an argument
abbrev pub left_at : {T : Type 0} → ArgumentEnd T → ℕ
left_at (Closed after behind) = length after.now
left_at Missing = 0

abbrev pub argument_left : {T : Type 0} → ScriptArgument T → ℕ
argument_left a = left_at a.end

-- this argument is in front, or a token is at fault
abbrev pub TakesArgument : {T : Type 0} → (T → Token) → Result (ScriptArgument T) FaultFields → CodeTables → ℕ → Option ℕ → List Token → Type 0
TakesArgument token (Ok a) tables level family tokens =
    (units : Units) (again : ItemRunReader) (count : ℕ)
    → argument_after tables units again count level family tokens ≡ argument_in token tables units again count a
TakesArgument token (Err fault) tables level family tokens =
    (units : Units) (again : ItemRunReader) (count : ℕ)
    → argument_after tables units again count level family tokens ≡ Fault fault.cause fault.left
