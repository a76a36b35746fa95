-- What the reading of a source up to a stop leaves, turn by turn.
use Rattle.std.specs.Prelude.{◌≡◌, ℕ, ◌≤◌, ◌+◌, List, length, Option, Some, None, Result, Ok, Err, ⊤}
use Rattle.mt_token.specs.declared.token.Token.{Token}
use Rattle.mt_token.specs.Tokens.{max_source}
use Rattle.mt_macro.specs.Table.{Table}
use Rattle.mt_scaled.specs.declared.unit.Units.{Units}
use Rattle.mt_plain.specs.CodeTables.{CodeTables}
use Rattle.mt_reader.specs.declared.document_turn.AfterTurn.{AfterTurn}
use Rattle.mt_reader.specs.declared.document_turn.AfterTurn.TheVariants.{Left, Ended}
use Rattle.mt_reader.specs.declared.document_error.DocError.{DocError}
use Rattle.mt_reader.specs.Documents.{DocumentTurn, Goes, Ends}
use Rattle.mt_reader.specs.DocumentTurns.{state_of, turn_refusal}
use Rattle.mt_reader.specs.Limits.{max_total_tokens}
use Rattle.mt_reader.specs.Refusals.{IsRefusal}
use Rattle.mt_reader.specs.SourceReading.{read_state}
use Rattle.mt_reader.specs.Stops.{stop, stop_from}
use Rattle.mt_reader.specs.Views.{StateView}
use Rattle.mt_rules.specs.declared.document.Formula.{Formula}

-- the result and the new state are those of this turn; of the pages that are ended only the number is kept
abbrev pub MeetsStopTurn : Result (AfterTurn Token) DocError → StateView → ℕ → DocumentTurn → Type 0
MeetsStopTurn (Ok (Left rest)) new whole turn =
    (pages : List (List Formula)) × (length pages ≡ new.ended) × (turn ≡ Goes (read_state pages new) rest.now)
MeetsStopTurn (Ok Ended) new whole turn = turn ≡ Ends (state_of new)
MeetsStopTurn (Err e) new whole turn = IsRefusal e (turn_refusal whole turn)

-- one more formula at most, and one more page
pub record IsStopSpent (old new : StateView) (tokens rest : List Token) : Type 0 where
  pub falls : length rest ≤ length tokens
  pub ended : new.ended ≤ old.ended + 1
  pub count : new.count ≤ old.count + 1
  pub total : new.total ≤ max_total_tokens

abbrev pub SpendsStop : Result (AfterTurn Token) DocError → StateView → StateView → List Token → Type 0
SpendsStop (Ok (Left rest)) old new tokens = IsStopSpent old new tokens rest.now
SpendsStop (Ok Ended) old new tokens = ⊤
SpendsStop (Err e) old new tokens = ⊤

-- the codes and macros are those of before
pub record KeepsTables (old new : StateView) : Type 0 where
  pub codes : new.codes ≡ old.codes
  pub macros : new.macros ≡ old.macros

-- the reading of all tokens stops where that of those that are left does
pub record IsAhead (units : Units) (wanted : Option ℕ) (codes : CodeTables) (macros : Table) (tokens : List Token)
    (definitions : List (List Token)) (s : StateView) (rest : List Token) : Type 0 where
  pub turns : ℕ
  pub enough : length rest ≤ turns
  pub is : stop units wanted codes macros tokens ≡ stop_from units (length tokens) wanted turns definitions (state_of s) rest

-- bounds within which reading goes on
pub record CanRead (s : StateView) (rest : List Token) : Type 0 where
  pub ended : s.ended + length rest ≤ max_source
  pub count : s.count + length rest ≤ max_source
  pub total : s.total ≤ max_total_tokens
