-- A turn of a document by tokens behind which there are more.
use Rattle.std.specs.Prelude.{◌≡◌, ℕ, ◌+◌, Bool, true, false, List, ◌++◌, length, map, Option, Some, None, Result, Ok, Err, ⊤}
use Rattle.mt_token.specs.declared.token.Token.{Token}
use Rattle.mt_reader.specs.declared.document_turn.AfterTurn.{AfterTurn}
use Rattle.mt_reader.specs.declared.document_turn.AfterTurn.TheVariants.{Left, Ended}
use Rattle.mt_reader.specs.declared.document_error.DocError.{DocError}
use Rattle.mt_reader.specs.declared.outside_role.OutsideRole.{OutsideRole}
use Rattle.mt_reader.specs.declared.outside_role.OutsideRole.TheVariants.{Defines, SetsMathCode, SetsDelimiterCode, BeginsFormula}
use Rattle.mt_macro.specs.Braces.{Taken}
use Rattle.mt_scan.specs.Parts.{ReadOr, Got, Fault, NoTurn}
use Rattle.mt_reader.specs.declared.outside_cause.OutsideCause.{OutsideCause}
use Rattle.mt_reader.specs.Definitions.{MacroDefinition, macro_definition}
use Rattle.mt_reader.specs.Documents.{DocumentTurn, Goes, Ends, Stops, StopsOutside}
use Rattle.mt_reader.specs.DocumentTurns.{MeetsTurn, Spends, state_of, turn_refusal}
use Rattle.mt_reader.specs.Refusals.{IsRefusal}
use Rattle.mt_reader.specs.Views.{StateView}

-- how many items are left, where the document does not end
abbrev pub left_items : {T : Type 0} → AfterTurn T → Option ℕ
left_items (Left rest) = Some (length rest.now)
left_items Ended = None

-- the same turn with these tokens behind those that were seen
abbrev pub turn_before : List Token → DocumentTurn → DocumentTurn
turn_before more (Goes s rest) = Goes s (rest ++ more)
turn_before more (Ends s) = Ends s
turn_before more (Stops refusal) = Stops refusal
turn_before more (StopsOutside n cause left) = StopsOutside n cause (left + length more)

-- the result and the new state are those of this turn, if there is one
abbrev pub MeetsSome : {T : Type 0} → (T → Token) → Result (Option (AfterTurn T)) DocError → StateView → ℕ → DocumentTurn → Type 0
MeetsSome token (Ok None) new whole turn = ⊤
MeetsSome token (Ok (Some after)) new whole turn = MeetsTurn token (Ok after) new whole turn
MeetsSome token (Err e) new whole turn = IsRefusal e (turn_refusal whole turn)

-- the result and the new state are those of this turn, where these tokens are behind those that were seen, if there is one
abbrev pub MeetsAhead : {T : Type 0} → (T → Token) → Result (Option (AfterTurn T)) DocError → StateView → ℕ → List Token → DocumentTurn → Type 0
MeetsAhead token (Ok None) new whole more turn = ⊤
MeetsAhead token (Ok (Some (Left rest))) new whole more turn = turn ≡ Goes (state_of new) (map token rest.now ++ more)
MeetsAhead token (Ok (Some Ended)) new whole more turn = turn ≡ Ends (state_of new)
MeetsAhead token (Err e) new whole more turn = IsRefusal e (turn_refusal (whole + length more) turn)

abbrev pub SpendsSome : {T : Type 0} → (T → Token) → Result (Option (AfterTurn T)) DocError → StateView → StateView → List Token → Type 0
SpendsSome token (Ok None) old new tokens = ⊤
SpendsSome token (Ok (Some after)) old new tokens = Spends token (Ok after) old new tokens
SpendsSome token (Err e) old new tokens = ⊤

-- a definition that ends among its tokens
abbrev pub IsGot : ReadOr OutsideCause MacroDefinition → Type 0
IsGot (Got part rest) = ⊤
IsGot (Fault cause left) = ⊥
IsGot NoTurn = ⊥

-- these tokens are enough for a turn by what is in front of them, whatever is behind. Of a formula it is not said here
abbrev pub AreEnough : OutsideRole → List Token → Type 0
AreEnough Defines tokens = IsGot (macro_definition tokens)
AreEnough SetsMathCode tokens = ⊥
AreEnough SetsDelimiterCode tokens = ⊥
AreEnough BeginsFormula tokens = ⊥
AreEnough role tokens = ⊤

-- a formula begins a page too many, or ends among its tokens
abbrev pub IsDecided : Bool → Option Taken → Type 0
IsDecided true taken = ⊤
IsDecided false None = ⊥
IsDecided false (Some taken) = ⊤

-- an answer of a formula's turn, by whether it would begin a page too many, and by what is taken of its tokens
abbrev pub IsFormulaFound : {T : Type 0} → Result (Option (AfterTurn T)) DocError → Bool → Option Taken → Type 0
IsFormulaFound (Ok None) limit taken = (limit ≡ false) × (taken ≡ None)
IsFormulaFound (Ok (Some after)) limit taken = IsDecided limit taken
IsFormulaFound (Err e) limit taken = IsDecided limit taken

-- no answer, and so no change
abbrev pub SameWhereNone : {A S : Type 0} → Result (Option A) DocError → S → S → Type 0
SameWhereNone (Ok None) old new = new ≡ old
SameWhereNone (Ok (Some after)) old new = ⊤
SameWhereNone (Err e) old new = ⊤
