-- Documents: definitions, assignments, formulas and the ends of pages (own; The TeXbook, chapters 20 and 24).
use Rattle.std.specs.Prelude.{ℕ, zero, suc, ◌+◌, ◌-◌, ◌==◌, nat_lt, Bool, true, false, ◌&&◌, ◌||◌, List, [], ◌∷◌, ◌++◌, length, Option, Some, None, Result, Ok, Err, if◌then◌else◌, codes}
use Rattle.std.specs.Str.{bytes_eq}
use Rattle.mt_token.specs.declared.token.Token.{Token}
use Rattle.mt_token.specs.declared.token.TokenError.{TokenError}
use Rattle.mt_token.specs.declared.token.TokenKind.{TokenKind}
use Rattle.mt_token.specs.declared.token.TokenKind.TheVariants.{Control, Char, Space}
use Rattle.mt_macro.specs.declared.definition.MacroError.{MacroError}
use Rattle.mt_macro.specs.Braces.{Taken}
use Rattle.mt_macro.specs.Table.{Table}
use Rattle.mt_macro.specs.Definition.{define}
use Rattle.mt_macro.specs.Expansion.{Expansion, Expanded, expansion}
use Rattle.mt_scaled.specs.declared.unit.Units.{Units}
use Rattle.mt_plain.specs.CodeTables.{CodeTables}
use Rattle.mt_scan.specs.declared.fault.ReadCause.{ReadCause}
use Rattle.mt_scan.specs.Parts.{Read, ReadOr, Got, Fault, NoTurn, IsAnswered}
use Rattle.mt_reader.specs.declared.outside_cause.OutsideCause.{OutsideCause}
use Rattle.mt_reader.specs.declared.outside_cause.OutsideCause.{OutsideCause}
use Rattle.mt_reader.specs.declared.outside_cause.OutsideCause.TheVariants as causes
use Rattle.mt_reader.specs.declared.outside_role.OutsideRole.{OutsideRole}
use Rattle.mt_reader.specs.declared.outside_role.OutsideRole.TheVariants.{Passed, Defines, SetsMathCode, SetsDelimiterCode, BeginsFormula, EndsPage, EndsDocument, Misplaced}
use Rattle.mt_rules.specs.declared.document.Body.{Body}
use Rattle.mt_rules.specs.declared.document.Formula.{Formula}
use Rattle.mt_rules.specs.declared.document.Tag.{Tag}
use Rattle.mt_formula.specs.Formulas.{Reading, Reads, ReadFault, reading}
use Rattle.mt_reader.specs.Definitions.{MacroDefinition, macro_definition}
use Rattle.mt_reader.specs.Assignments.{math_code_assignment, delcode_assignment}
use Rattle.mt_reader.specs.Dollars.{begins_display, between_dollars}
use Rattle.mt_reader.specs.Limits.{max_total_tokens, max_document_pages}
use Rattle.mt_reader.specs.Answered.{definition_answered, math_code_answered, delcode_answered}

-- what has been read: the pages that are ended, the formulas of the page that is not, how many formulas there are, and
-- how many tokens they had after expansion
pub record DocumentState : Type 0 where
  pub tables : CodeTables
  pub macros : Table
  pub pages : List (List Formula)
  pub page : List Formula
  pub count : ℕ
  pub total : ℕ

-- nothing read yet
abbrev pub start_state : CodeTables → Table → DocumentState
start_state tables macros = record { tables = tables; macros = macros; pages = []; page = []; count = 0; total = 0 }

-- why a document is refused; n is the number of the formula that is being read, or of the next one
pub data DocumentFault : Type 0 where
  -- the source has no tokens
  NotLexed : (cause : TokenError) → DocumentFault
  -- a token outside of formulas, by its place
  Outside : (n : ℕ) (cause : OutsideCause) (place : ℕ) → DocumentFault
  NotExpanded : (n : ℕ) (outcome : Expansion) → DocumentFault
  NotRead : (n : ℕ) (cause : ReadCause) (place : ℕ) → DocumentFault
  TooManyTokens : (n : ℕ) (count : ℕ) → DocumentFault
  TooManyPages : (count : ℕ) → DocumentFault

abbrev pub DocumentAnswer : Type 0
DocumentAnswer = Result (List (List Formula)) DocumentFault

-- what becomes of a token and those after it
pub data DocumentTurn : Type 0 where
  Goes : (state : DocumentState) (rest : List Token) → DocumentTurn
  Ends : (state : DocumentState) → DocumentTurn
  Stops : (refusal : DocumentFault) → DocumentTurn
  -- a token outside of formulas is at fault: so many are left from it on
  StopsOutside : (n : ℕ) (cause : OutsideCause) (left : ℕ) → DocumentTurn

-- what a token is outside of formulas, whatever its name is defined as
abbrev pub outside_name_role : List ℕ → OutsideRole
outside_name_role name =
    if bytes_eq name (codes "par") then Passed
    else if bytes_eq name (codes "def") then Defines
    else if bytes_eq name (codes "mathcode") then SetsMathCode
    else if bytes_eq name (codes "delcode") then SetsDelimiterCode
    else if bytes_eq name (codes "eject") then EndsPage
    else if bytes_eq name (codes "bye") || bytes_eq name (codes "end") then EndsDocument
    else Misplaced

abbrev pub outside_role : TokenKind → OutsideRole
outside_role (Control name) = outside_name_role name
outside_role (Char c) = if c == 36 then BeginsFormula else Misplaced
outside_role Space = Passed

-- a page without formulas is none
abbrev pub with_page : List (List Formula) → List Formula → List (List Formula)
with_page pages [] = pages
with_page pages (e ∷ es) = pages ++ (e ∷ es) ∷ []

abbrev pub after_page_end : DocumentState → DocumentState
after_page_end s = record s { pages = with_page s.pages s.page; page = [] }

-- the pages that a document has where it ends
abbrev pub state_pages : DocumentState → List (List Formula)
state_pages s = with_page s.pages s.page

abbrev pub outside_fault : DocumentState → OutsideCause → ℕ → DocumentTurn
outside_fault s cause left = StopsOutside (s.count + 1) cause left

abbrev pub with_table : DocumentState → ℕ → List Token → Result Table MacroError → DocumentTurn
with_table s left rest (Ok macros) = Goes (record s { macros = macros }) rest
with_table s left rest (Err e) = outside_fault s causes.TooManyNames left

-- a definition, and then whether there is room for it
abbrev pub after_definition : DocumentState → ℕ → (read : ReadOr OutsideCause MacroDefinition) → IsAnswered read → DocumentTurn
after_definition s left (Fault cause at) answered = outside_fault s cause at
after_definition s left NoTurn answered = elim answered [ ]
after_definition s left (Got d rest) answered = with_table s left rest (define s.macros d.name d.params d.body)

abbrev pub after_assignment : DocumentState → ℕ → (read : Read CodeTables) → IsAnswered read → DocumentTurn
after_assignment s left (Fault cause at) answered = outside_fault s causes.BadAssignment left
after_assignment s left NoTurn answered = elim answered [ ]
after_assignment s left (Got tables rest) answered = Goes (record s { tables = tables }) rest

abbrev pub is_empty_page : List Formula → Bool
is_empty_page [] = true
is_empty_page (e ∷ es) = false

-- the next formula would begin a page too many
abbrev pub is_page_limit : DocumentState → Bool
is_page_limit s = is_empty_page s.page && (length s.pages == max_document_pages)

-- after a formula, with which so many tokens are read
abbrev pub with_formula : DocumentState → Bool → ℕ → Body → Option Tag → DocumentState
with_formula s display total body tag =
    let formula : Formula = record { number = s.count + 1; display = display; body = body; tag = tag } in
    record s { page = s.page ++ formula ∷ []; count = s.count + 1; total = total }

module _ (units : Units) where
  abbrev pub after_reading : DocumentState → Bool → ℕ → List Token → Reading → DocumentTurn
  after_reading s display total rest (ReadFault cause place) = Stops (NotRead (s.count + 1) cause place)
  after_reading s display total rest (Reads body tag) = Goes (with_formula s display total body tag) rest

  abbrev pub after_expansion : DocumentState → Bool → List Token → Expansion → DocumentTurn
  after_expansion s display rest (Expanded list) =
      let total = s.total + length list in
      elim (nat_lt max_total_tokens total) [
        | true ↦ Stops (TooManyTokens (s.count + 1) total)
        | false ↦ after_reading s display total rest (reading s.tables units display list)
      ]
  after_expansion s display rest outcome = Stops (NotExpanded (s.count + 1) outcome)

  abbrev pub formula_in : DocumentState → Bool → ℕ → Option Taken → DocumentTurn
  formula_in s display left None = outside_fault s causes.OpenFormula left
  formula_in s display left (Some taken) = after_expansion s display taken.after (expansion s.macros taken.argument)

  -- a formula after its first dollar: it is expanded, counted and read
  abbrev pub formula_turn : DocumentState → List Token → Bool → DocumentTurn
  formula_turn s rest true = Stops (TooManyPages (max_document_pages + 1))
  formula_turn s rest false = formula_in s (begins_display rest) (length rest + 1) (between_dollars rest)

  abbrev pub turn_by : DocumentState → List Token → OutsideRole → DocumentTurn
  turn_by s rest Passed = Goes s rest
  turn_by s rest Defines = after_definition s (length rest + 1) (macro_definition rest) (definition_answered rest)
  turn_by s rest SetsMathCode = after_assignment s (length rest + 1) (math_code_assignment s.tables rest) (math_code_answered s.tables rest)
  turn_by s rest SetsDelimiterCode = after_assignment s (length rest + 1) (delcode_assignment s.tables rest) (delcode_answered s.tables rest)
  turn_by s rest BeginsFormula = formula_turn s rest (is_page_limit s)
  turn_by s rest EndsPage = Goes (after_page_end s) rest
  turn_by s rest EndsDocument = Ends s
  turn_by s rest Misplaced = outside_fault s causes.Misplaced (length rest + 1)

  module _ (length_of_all : ℕ) where
    abbrev pub turn_answer : (DocumentState → List Token → DocumentAnswer) → DocumentTurn → DocumentAnswer
    turn_answer again (Goes s rest) = again s rest
    turn_answer again (Ends s) = Ok (state_pages s)
    turn_answer again (Stops refusal) = Err refusal
    turn_answer again (StopsOutside n cause left) = Err (Outside n cause (length_of_all - left))

    abbrev pub document_turn : (DocumentState → List Token → DocumentAnswer)
        → DocumentState → List Token → DocumentAnswer
    document_turn again s [] = Ok (state_pages s)
    document_turn again s (t ∷ rest) = turn_answer again (turn_by s rest (outside_role t.kind))

    -- the pages after what has been read, by at most so many turns
    unfoldable pub pages_from : ℕ → DocumentState → List Token → DocumentAnswer
    pages_from zero = λ (s : DocumentState) (tokens : List Token). Ok (state_pages s)
    pages_from (suc n) = document_turn (pages_from n)

  -- the pages, where this has been read before; each turn takes a token, so this many are enough
  abbrev pub document_from : DocumentState → List Token → DocumentAnswer
  document_from s tokens = pages_from (length tokens) (length tokens) s tokens

  -- the pages of a document, or why it is refused
  abbrev pub document : CodeTables → Table → List Token → DocumentAnswer
  document tables macros tokens = document_from (start_state tables macros) tokens
