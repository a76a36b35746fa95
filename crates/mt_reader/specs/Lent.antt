-- Items that are lent, each of which is read as a token: what is taken of them, and what is read from them outside of formulas.
use Rattle.std.specs.Prelude.{◌≡◌, List, map, Option, Some, None, Result, Ok, Err}
use Rattle.std.specs.Borrow.{Bor}
use Rattle.mt_token.specs.declared.token.Token.{Token}
use Rattle.mt_macro.specs.Braces.{Taken as TakenTokens}
use Rattle.mt_plain.specs.CodeTables.{CodeTables}
use Rattle.mt_scan.specs.declared.scanned.Scanned.{Scanned}
use Rattle.mt_scan.specs.declared.fault.Fault.{Fault as FaultFields}
use Rattle.mt_reader.specs.declared.dollars.Taken.{Taken}
use Rattle.mt_reader.specs.declared.outside_cause.OutsideCause.{OutsideCause}
use Rattle.mt_reader.specs.declared.definitions.OutsideFault.{OutsideFault}
use Rattle.mt_reader.specs.declared.definitions.MacroDefinition.{MacroDefinition as LentDefinition}
use Rattle.mt_scan.specs.Parts.{Read, ReadOr, Got, Fault}
use Rattle.mt_reader.specs.Naming.{control_name}
use Rattle.mt_reader.specs.Definitions.{MacroDefinition}

abbrev pub taken_tokens : {T : Type 0} → (T → Token) → Taken T → TakenTokens
taken_tokens token t = record { argument = map token t.argument.now; after = map token t.after.now }

-- what was taken, if anything
abbrev pub TakesAs : {T : Type 0} → (T → Token) → Option (Taken T) → Option TakenTokens → Type 0
TakesAs token None taken = taken ≡ None
TakesAs token (Some t) taken = taken ≡ Some (taken_tokens token t)

abbrev pub definition_value : {T : Type 0} → (T → Token) → LentDefinition T → MacroDefinition
definition_value token d = record { name = control_name (token d.name.now).kind; params = d.params; body = map token d.body.now }

-- the result is what is read
abbrev pub MeetsOutside : {A T : Type 0} → (T → Token) → Result (Scanned A T) OutsideFault → ReadOr OutsideCause A → Type 0
MeetsOutside token (Ok part) read = read ≡ Got part.value (map token part.rest.now)
MeetsOutside token (Err fault) read = read ≡ Fault fault.cause fault.left

abbrev pub MeetsDefinition : {T : Type 0} → (T → Token) → Result (Scanned (LentDefinition T) T) OutsideFault
    → ReadOr OutsideCause MacroDefinition → Type 0
MeetsDefinition token (Ok part) read = read ≡ Got (definition_value token part.value) (map token part.rest.now)
MeetsDefinition token (Err fault) read = read ≡ Fault fault.cause fault.left

-- the new tables and the tokens after the assignment are what is read
abbrev pub Assigns : {T : Type 0} → (T → Token) → Result (Bor (List T)) FaultFields → CodeTables → Read CodeTables → Type 0
Assigns token (Ok rest) new read = read ≡ Got new (map token rest.now)
Assigns token (Err fault) new read = read ≡ Fault fault.cause fault.left
