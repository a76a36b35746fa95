-- What is in front (`front_role`, `front_code`), and what becomes of a list where no item is (`StopsHere`).
use Rattle.std.specs.Prelude.{◌≡◌, ℕ, true, false, List, [], ◌∷◌, Option, None, drop, Result, Ok, Err}
use Rattle.mt_token.specs.declared.token.Token.{Token}
use Rattle.mt_scaled.specs.declared.unit.Units.{Units}
use Rattle.mt_plain.specs.CodeTables.{CodeTables}
use Rattle.mt_rules.specs.Sequence.{Sequence}
use Rattle.mt_scan.specs.declared.fault.Fault.{Fault as FaultFields}
use Rattle.mt_scan.specs.declared.fault.ReadCause.TheVariants.{Unbalanced}
use Rattle.mt_scan.specs.declared.role.Role.{Role}
use Rattle.mt_scan.specs.declared.role.Role.TheVariants.{Unknown}
use Rattle.mt_scan.specs.Role.{role_code, role_of}
use Rattle.mt_scan.specs.Parts.{Read, Got, Fault, then_read}
use Rattle.mt_formula.specs.declared.reading.ends.Ending.{Ending}
use Rattle.mt_formula.specs.declared.reading.ends.ListStop.{ListStop}
use Rattle.mt_formula.specs.declared.reading.ends.ListStop.TheVariants.{Ends, Divides}
use Rattle.mt_formula.specs.Lists.{ItemRun, ItemRunReader, after_item_run, denominator, ends_at, ends_with_tokens, fraction_head, misplaced_cause}

-- what the token in front is, or an unknown one where there is none
abbrev pub front_role : CodeTables → List Token → Role
front_role tables [] = Unknown
front_role tables (t ∷ rest) = role_of tables t

-- the math code of the token in front, if it is set by one
abbrev pub front_code : CodeTables → List Token → Option ℕ
front_code tables [] = None
front_code tables (t ∷ rest) = role_code (role_of tables t)

-- a list ends at a token of this role, with which so many are left, or that is at fault
abbrev pub EndsAtRole : Result (Unit {0}) FaultFields → Ending → Role → ℕ → Type 0
EndsAtRole (Ok done) ending role left = ends_at ending role ≡ true
EndsAtRole (Err fault) ending role left = (ends_at ending role ≡ false) × (fault.cause ≡ misplaced_cause role) × (fault.left ≡ left)

-- a list ends with the tokens, or their end is at fault
abbrev pub EndsAtEnd : Result (Unit {0}) FaultFields → Ending → Type 0
EndsAtEnd (Ok done) ending = ends_with_tokens ending ≡ true
EndsAtEnd (Err fault) ending = (ends_with_tokens ending ≡ false) × (fault.cause ≡ Unbalanced) × (fault.left ≡ 0)

-- the list ends at these tokens, or one of them is at fault
abbrev pub EndsHere : Result (Unit {0}) FaultFields → Sequence → Read Sequence → List Token → Type 0
EndsHere (Ok done) list read tokens = read ≡ Got list tokens
EndsHere (Err fault) list read tokens = read ≡ Fault fault.cause fault.left

module _ (tables : CodeTables) (units : Units) (again : ItemRunReader) (ending : Ending) (level : ℕ) (run : ItemRun) (tokens : List Token) where
  -- the list ends at these tokens after this run of items, or a fraction word divides it there, or one of them is at fault
  abbrev pub StopsHere : Result ListStop FaultFields → Type 0
  StopsHere (Ok Ends) = after_item_run tables units again ending level run tokens ≡ Got run.items tokens
  StopsHere (Ok (Divides delims bar)) =
      after_item_run tables units again ending level run tokens
      ≡ then_read (fraction_head tables units delims bar (drop 1 tokens)) (denominator tables units again ending level run)
  StopsHere (Err fault) = after_item_run tables units again ending level run tokens ≡ Fault fault.cause fault.left
