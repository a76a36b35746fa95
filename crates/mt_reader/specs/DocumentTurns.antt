-- What a turn of a document leaves.
use Rattle.std.specs.Prelude.{◌≡◌, ℕ, ◌+◌, ◌-◌, ◌*◌, ◌≤◌, Bool, true, false, List, [], length, map, replicate, Option, Some, None, Result, Ok, Err, ⊤}
use Rattle.std.specs.Borrow.{Bor}
use Rattle.mt_token.specs.declared.token.Token.{Token}
use Rattle.mt_macro.specs.Table.{Table}
use Rattle.mt_rules.specs.declared.document.Formula.{Formula}
use Rattle.mt_plain.specs.CodeTables.{CodeTables}
use Rattle.mt_scan.specs.Parts.{Read}
use Rattle.mt_scan.specs.declared.fault.Fault.{Fault as FaultFields}
use Rattle.mt_macro.specs.declared.expansion.ExpandError.{ExpandError}
use Rattle.mt_macro.specs.declared.expansion.ExpandError.TheVariants.{OutOfMemory as NoMemoryToExpand}
use Rattle.mt_scan.specs.declared.fault.ReadError.{ReadError}
use Rattle.mt_scan.specs.declared.fault.ReadError.TheVariants.{OutOfMemory as NoMemoryToRead}
use Rattle.mt_formula.specs.Answers.{IsFault}
use Rattle.mt_formula.specs.Formulas.{Reading, Reads}
use Rattle.mt_formula.specs.Rules.{FormulaParts}
use Rattle.mt_reader.specs.declared.outside_role.OutsideRole.{OutsideRole}
use Rattle.mt_reader.specs.declared.outside_role.OutsideRole.TheVariants.{EndsPage}
use Rattle.mt_reader.specs.declared.document_turn.AfterTurn.{AfterTurn}
use Rattle.mt_reader.specs.declared.document_turn.AfterTurn.TheVariants.{Left, Ended}
use Rattle.mt_reader.specs.declared.document_error.DocError.{DocError}
use Rattle.mt_reader.specs.declared.document_error.DocError.TheVariants.{Expand, Read as NotReadError, OutOfMemory}
use Rattle.mt_reader.specs.Documents.{DocumentState, DocumentAnswer, DocumentTurn, Goes, Ends, Stops, StopsOutside, Outside, is_empty_page, with_formula}
use Rattle.mt_reader.specs.Refusals.{IsRefusal}
use Rattle.mt_reader.specs.Lent.{Assigns}
use Rattle.mt_reader.specs.Views.{StateView}
use Rattle.mt_reader.specs.Weights.{dollars, page_weight}
use Rattle.mt_reader.specs.Limits.{max_total_tokens}

-- what has been read; of the pages that are ended only their number is kept, and each counts as one without formulas
abbrev pub state_of : StateView → DocumentState
state_of s = record {
  tables = s.codes;
  macros = s.macros;
  pages = replicate s.ended [];
  page = s.page;
  count = s.count;
  total = s.total;
}

abbrev pub ends_page : OutsideRole → Bool
ends_page EndsPage = true
ends_page role = false

-- a page that is ended
pub record IsTaken (page : List Formula) (old new : StateView) : Type 0 where
  pub is : page ≡ old.page
  pub some : is_empty_page page ≡ false
  pub empty : new.page ≡ []
  pub ended : new.ended ≡ old.ended + 1
  pub codes : new.codes ≡ old.codes
  pub macros : new.macros ≡ old.macros
  pub count : new.count ≡ old.count
  pub total : new.total ≡ old.total

-- the page that was handed out, or that there was none
abbrev pub TakesPage : Option (List Formula) → StateView → StateView → Type 0
TakesPage (Some page) old new = IsTaken page old new
TakesPage None old new = (old.page ≡ []) × (new ≡ old)

-- one more formula is read, after which all have so many tokens, or a token of it is at fault
abbrev pub AddsTo : {U : Type 0} → Result U ReadError → DocumentState → DocumentState → Bool → ℕ → Reading → Type 0
AddsTo (Ok u) old new display total read =
    (parts : FormulaParts) × (read ≡ Reads parts.0 parts.1) × (new ≡ with_formula old display total parts.0 parts.1)
AddsTo (Err error) old new display total read = IsFault error read

abbrev pub changes_macros : DocumentState → Table → DocumentState
changes_macros s macros = record s { macros = macros }

abbrev pub changes_tables : DocumentState → CodeTables → DocumentState
changes_tables s tables = record s { tables = tables }

-- the new state and the tokens after the assignment are what is read, and nothing but the codes changes
abbrev pub SetsTables : {T : Type 0} → (T → Token) → Result (Bor (List T)) FaultFields → DocumentState → DocumentState
    → Read CodeTables → Type 0
SetsTables token result old new read = Assigns token result new.tables read × (new ≡ changes_tables old new.tables)

-- the refusal of a turn, where a source has so many tokens
abbrev pub turn_refusal : ℕ → DocumentTurn → DocumentAnswer
turn_refusal whole (Goes s rest) = Ok []
turn_refusal whole (Ends s) = Ok []
turn_refusal whole (Stops refusal) = Err refusal
turn_refusal whole (StopsOutside n cause left) = Err (Outside n cause (whole - left))

-- the result and the new state are those of this turn
abbrev pub MeetsTurn : {T : Type 0} → (T → Token) → Result (AfterTurn T) DocError → StateView → ℕ → DocumentTurn → Type 0
MeetsTurn token (Ok (Left rest)) new whole turn = turn ≡ Goes (state_of new) (map token rest.now)
MeetsTurn token (Ok Ended) new whole turn = turn ≡ Ends (state_of new)
MeetsTurn token (Err e) new whole turn = IsRefusal e (turn_refusal whole turn)

-- why formula n is not expanded; that memory ran out is no cause of its own
abbrev pub expand_error : ℕ → ExpandError → DocError
expand_error n NoMemoryToExpand = OutOfMemory
expand_error n cause = Expand n cause

abbrev pub read_error : ℕ → ReadError → DocError
read_error n NoMemoryToRead = OutOfMemory
read_error n cause = NotReadError n cause

-- the formulas of the page, each display counted twice
abbrev pub state_weight : StateView → ℕ
state_weight s = page_weight s.page

-- one more formula at most, which has at least two tokens, four in a display
pub record IsSpent (old new : StateView) (tokens rest : List Token) : Type 0 where
  pub ended : new.ended ≡ old.ended
  pub falls : length rest ≤ length tokens
  pub count : new.count ≤ old.count + 1
  pub total : new.total ≤ max_total_tokens
  pub weight : 2 * state_weight new + length rest ≤ 2 * state_weight old + length tokens + 1

-- one more formula, and these tokens after it
pub record IsReadOne (old new : StateView) (display : Bool) (tokens left : List Token) : Type 0 where
  pub rest : left ≡ tokens
  pub ended : new.ended ≡ old.ended
  pub count : new.count ≡ old.count + 1
  pub total : new.total ≤ max_total_tokens
  pub weight : state_weight new ≡ state_weight old + dollars display

abbrev pub ReadsOne : {T : Type 0} → (T → Token) → Result (AfterTurn T) DocError → StateView → StateView → Bool → List Token → Type 0
ReadsOne token (Ok (Left rest)) old new display tokens = IsReadOne old new display tokens (map token rest.now)
ReadsOne token (Ok Ended) old new display tokens = ⊥
ReadsOne token (Err e) old new display tokens = ⊤

-- what a turn takes for what it reads, of its first token and these
abbrev pub Spends : {T : Type 0} → (T → Token) → Result (AfterTurn T) DocError → StateView → StateView → List Token → Type 0
Spends token (Ok (Left rest)) old new tokens = IsSpent old new tokens (map token rest.now)
Spends token (Ok Ended) old new tokens = new ≡ old
Spends token (Err e) old new tokens = ⊤
