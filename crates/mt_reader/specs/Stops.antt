-- Where the reading of a source stops, by the turns of its document: at its first fault, or where a formula begins (`stop`).
use Rattle.std.specs.Prelude.{◌≡◌, ℕ, zero, suc, ◌+◌, ◌-◌, ◌==◌, Bool, true, false, List, [], ◌∷◌, ◌++◌, drop, length, map, Option, Some, None, Ok, Err, if◌then◌else◌}
use Rattle.std.specs.Borrow.{Bor}
use Rattle.mt_token.specs.declared.token.Token.{Token}
use Rattle.mt_macro.specs.Braces.{Taken}
use Rattle.mt_macro.specs.Table.{Table}
use Rattle.mt_scaled.specs.declared.unit.Units.{Units}
use Rattle.mt_plain.specs.CodeTables.{CodeTables}
use Rattle.mt_reader.specs.declared.document_error.DocError.{DocError}
use Rattle.mt_reader.specs.declared.document_error.DocError.TheVariants.{OutOfMemory}
use Rattle.mt_reader.specs.declared.outside_role.OutsideRole.{OutsideRole}
use Rattle.mt_reader.specs.declared.outside_role.OutsideRole.TheVariants.{Defines, BeginsFormula}
use Rattle.mt_reader.specs.declared.stop.Stop.{Stop}
use Rattle.mt_reader.specs.declared.stop.StopFormula.{StopFormula}
use Rattle.mt_reader.specs.declared.stop.StopCause.{StopCause}
use Rattle.mt_reader.specs.declared.stop.StopCause.TheVariants.{Formula, Fault}
use Rattle.mt_reader.specs.Documents.{DocumentAnswer, DocumentFault, DocumentState, DocumentTurn, Goes, Ends, Stops, StopsOutside, Outside, outside_role, start_state, turn_by}
use Rattle.mt_reader.specs.Dollars.{begins_display, between_dollars}
use Rattle.mt_reader.specs.Refusals.{IsRefusal}

-- why reading stops: the formula that is looked for begins, or this is the first fault
pub data StopReason : Type 0 where
  AtFormula : StopReason
  AtFault : (refusal : DocumentFault) → StopReason

-- why; the codes and macros before the turn at which reading stops, and its tokens with all those after them; and the tokens
-- from each `\def` before it on
pub record StopPlace : Type 0 where
  pub reason : StopReason
  pub codes : CodeTables
  pub macros : Table
  pub from : List Token
  pub definitions : List (List Token)

-- whether a turn begins the formula that is looked for, by its number, where there are so many formulas before
abbrev pub is_wanted : Option ℕ → ℕ → OutsideRole → Bool
is_wanted None count role = false
is_wanted (Some n) count BeginsFormula = count + 1 == n
is_wanted (Some n) count role = false

-- with the tokens from this turn on, where it is a definition
abbrev pub with_definition : List (List Token) → List Token → OutsideRole → List (List Token)
with_definition definitions from Defines = definitions ++ from ∷ []
with_definition definitions from role = definitions

abbrev pub stop_place : StopReason → DocumentState → List (List Token) → List Token → StopPlace
stop_place reason s definitions from =
    record { reason = reason; codes = s.tables; macros = s.macros; from = from; definitions = definitions }

abbrev pub Stopping : Type 0
Stopping = List (List Token) → DocumentState → List Token → Option StopPlace

module _ (units : Units) (length_of_all : ℕ) (wanted : Option ℕ) where
  -- after a turn that takes these tokens
  abbrev pub after_turn : Stopping → List (List Token) → DocumentState → List Token → OutsideRole → DocumentTurn → Option StopPlace
  after_turn again definitions s from role (Goes next rest) = again (with_definition definitions from role) next rest
  after_turn again definitions s from role (Ends next) = None
  after_turn again definitions s from role (Stops refusal) = Some (stop_place (AtFault refusal) s definitions from)
  after_turn again definitions s from role (StopsOutside n cause left) =
      Some (stop_place (AtFault (Outside n cause (length_of_all - left))) s definitions from)

  -- the turn of these tokens, which is made where no wanted formula begins
  abbrev pub turn_unless : Stopping → List (List Token) → DocumentState → List Token → List Token → OutsideRole → Bool → Option StopPlace
  turn_unless again definitions s from rest role true = Some (stop_place AtFormula s definitions from)
  turn_unless again definitions s from rest role false = after_turn again definitions s from role (turn_by units s rest role)

  abbrev pub stop_turn : Stopping → Stopping
  stop_turn again definitions s [] = None
  stop_turn again definitions s (t ∷ rest) =
      turn_unless again definitions s (t ∷ rest) rest (outside_role t.kind) (is_wanted wanted s.count (outside_role t.kind))

  -- where reading stops after what has been read, by at most so many turns
  unfoldable pub stop_from : ℕ → Stopping
  stop_from zero = λ (definitions : List (List Token)) (s : DocumentState) (tokens : List Token). None
  stop_from (suc n) = stop_turn (stop_from n)

-- where the reading of these tokens stops: at the first fault, or before it where the formula of this number begins, if one is
-- looked for; none where it comes to the end. Each turn takes a token, so that as many turns as tokens are enough
abbrev pub stop : Units → Option ℕ → CodeTables → Table → List Token → Option StopPlace
stop units wanted tables macros tokens =
    stop_from units (length tokens) wanted (length tokens) [] (start_state tables macros) tokens

-- an error that is no lack of memory
abbrev pub fault_cause : DocError → Option StopCause
fault_cause OutOfMemory = None
fault_cause error = Some (Fault error)

-- the error of this fault
abbrev pub IsFaultReason : DocError → StopReason → Type 0
IsFaultReason error reason = (refusal : DocumentFault) × (reason ≡ AtFault refusal) × IsRefusal error (Err refusal)

-- the cause is this reason; it is never that memory ran out
abbrev pub IsReason : StopCause → StopReason → Type 0
IsReason Formula reason = reason ≡ AtFormula
IsReason (Fault OutOfMemory) reason = ⊥
IsReason (Fault error) reason = IsFaultReason error reason

abbrev pub definition_tokens : List (Bor (List Token)) → List (List Token)
definition_tokens definitions = map (λ (d : Bor (List Token)). d.now) definitions

abbrev pub stop_view : StopReason → Stop → StopPlace
stop_view reason s = record {
  reason = reason;
  codes = s.tables.codes;
  macros = s.tables.macros;
  from = s.from.now;
  definitions = definition_tokens s.definitions.items;
}

-- reading stops there, for that cause
abbrev pub IsStop : Option Stop → Option StopPlace → Type 0
IsStop None place = place ≡ None
IsStop (Some s) place = (reason : StopReason) × IsReason s.cause reason × (place ≡ Some (stop_view reason s))

-- ---- the formula that begins where reading stops

-- the tokens after the first dollars of a formula, by those after its first one
abbrev pub inside_of : List Token → List Token
inside_of rest = if begins_display rest then drop 1 rest else rest

-- whether it is a display, its tokens without its dollars, and the tokens of the source from its first closing dollar on
pub record FormulaTokens : Type 0 where
  pub display : Bool
  pub tokens : List Token
  pub closing : List Token

abbrev pub formula_tokens : List Token → Option Taken → Option FormulaTokens
formula_tokens rest None = None
formula_tokens rest (Some taken) = Some (record {
  display = begins_display rest;
  tokens = taken.argument;
  closing = drop (length taken.argument) (inside_of rest);
})

-- the formula of its first dollar and the tokens after it; none where it has no end
abbrev pub formula_from : List Token → Option FormulaTokens
formula_from [] = None
formula_from (t ∷ rest) = formula_tokens rest (between_dollars rest)

abbrev pub formula_view : Option StopFormula → Option FormulaTokens
formula_view None = None
formula_view (Some f) = Some (record { display = f.display; tokens = f.tokens.now; closing = f.closing.now })

-- ---- the fault of a document

-- the fault at which reading stops
abbrev pub reason_fault : StopReason → Option DocumentFault
reason_fault AtFormula = None
reason_fault (AtFault refusal) = Some refusal

abbrev pub stop_fault : Option StopPlace → Option DocumentFault
stop_fault None = None
stop_fault (Some place) = reason_fault place.reason

-- the fault for which a document is refused
abbrev pub document_fault : DocumentAnswer → Option DocumentFault
document_fault (Ok pages) = None
document_fault (Err refusal) = Some refusal
