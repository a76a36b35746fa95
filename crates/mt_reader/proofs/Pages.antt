-- A document has at most 5,000 pages.
use Rattle.std.proofs.Common.{◌≡◌, ℕ, zero, suc, ◌+◌, ◌≤◌, refl, subst, Bool, true, false, List, [], ◌∷◌, ◌++◌, length, Option, Some, None, arith}
use Rattle.std.specs.Prelude.{nat_lt, ◌==◌, ◌&&◌, ⊤, Result, Ok, Err, IfOk}
use Rattle.mt_token.specs.declared.token.Token.{Token}
use Rattle.mt_scaled.specs.declared.unit.Units.{Units}
use Rattle.mt_macro.specs.declared.definition.MacroError.{MacroError}
use Rattle.mt_macro.specs.Braces.{Taken}
use Rattle.mt_macro.specs.Table.{Table}
use Rattle.mt_macro.specs.Definition.{define}
use Rattle.mt_macro.specs.Expansion.{Expansion, Expanded, OverBudget, NoArgument, NoPartner, ListTooLong, expansion}
use Rattle.mt_rules.specs.declared.document.Formula.{Formula}
use Rattle.mt_plain.specs.CodeTables.{CodeTables}
use Rattle.mt_reader.specs.declared.outside_cause.OutsideCause.{OutsideCause}
use Rattle.mt_reader.specs.declared.document_error.DocError.{DocError}
use Rattle.mt_reader.specs.declared.outside_role.OutsideRole.{OutsideRole}
use Rattle.mt_reader.specs.declared.outside_role.OutsideRole.TheVariants.{Passed, Defines, SetsMathCode, SetsDelimiterCode, BeginsFormula, EndsPage, EndsDocument, Misplaced}
use Rattle.mt_scan.specs.Parts.{Read, ReadOr, Got, Fault, NoTurn, IsAnswered}
use Rattle.mt_formula.specs.Formulas.{Reading, Reads, ReadFault, reading}
use Rattle.mt_reader.specs.Definitions.{MacroDefinition, macro_definition}
use Rattle.mt_reader.specs.Assignments.{math_code_assignment, delcode_assignment}
use Rattle.mt_reader.specs.Dollars.{begins_display, between_dollars}
use Rattle.mt_reader.specs.Documents.{DocumentState, DocumentAnswer, start_state, DocumentTurn, Goes, Ends, Stops, StopsOutside, TooManyTokens, outside_role, with_page, state_pages, with_table, after_definition, after_assignment, is_empty_page, is_page_limit, after_reading, after_expansion, formula_in, formula_turn, turn_by, turn_answer, pages_from, document}
use Rattle.mt_reader.specs.Refusals.{IsDocument}
use Rattle.mt_reader.specs.Limits.{max_total_tokens, max_document_pages}
use Rattle.mt_reader.specs.Answered.{definition_answered, math_code_answered, delcode_answered}

-- what has been read makes at most so many pages
abbrev pub FewPages : DocumentState → Type 0
FewPages s = length (state_pages s) ≤ max_document_pages

push_length : (pages : List (List Formula)) (page : List Formula) → length (pages ++ page ∷ []) ≡ length pages + 1
push_length [] page = refl
push_length (p ∷ ps) page = omega (arith, push_length ps page)

-- a formula begins no page after the last one
push_page : (pages : List (List Formula)) (page : List Formula) (f : Formula) → length (with_page pages page) ≤ max_document_pages → (is_empty_page page && (length pages == max_document_pages)) ≡ false → length (with_page pages (page ++ f ∷ [])) ≤ max_document_pages
push_page pages [] f h e = grind (arith, push_length pages (f ∷ []), h, e)
push_page pages (p ∷ ps) f h e = omega (arith, h, push_length pages (p ∷ ps), push_length pages (p ∷ ps ++ f ∷ []))

-- what a turn goes on with, or ends with, has few pages
abbrev pub TurnFits : DocumentTurn → Type 0
TurnFits (Goes s rest) = FewPages s
TurnFits (Ends s) = FewPages s
TurnFits (Stops refusal) = ⊤
TurnFits (StopsOutside n cause left) = ⊤

with_table_fits : (s : DocumentState) (left : ℕ) (rest : List Token) (made : Result Table MacroError) → FewPages s → TurnFits (with_table s left rest made)
with_table_fits s left rest (Ok macros) f = f
with_table_fits s left rest (Err e) f = tt

definition_fits : (s : DocumentState) (left : ℕ) (d : ReadOr OutsideCause MacroDefinition) (a : IsAnswered d) → FewPages s → TurnFits (after_definition s left d a)
definition_fits s left (Fault cause at) a f = tt
definition_fits s left NoTurn a f = elim a [ ]
definition_fits s left (Got d rest) a f = with_table_fits s left rest (define s.macros d.name d.params d.body) f

assignment_fits : (s : DocumentState) (left : ℕ) (r : Read CodeTables) (a : IsAnswered r) → FewPages s → TurnFits (after_assignment s left r a)
assignment_fits s left (Fault cause at) a f = tt
assignment_fits s left NoTurn a f = elim a [ ]
assignment_fits s left (Got tables rest) a f = f

abbrev AnswerFits : DocumentAnswer → Type 0
AnswerFits (Ok pages) = length pages ≤ max_document_pages
AnswerFits (Err refusal) = ⊤

abbrev AgainFits : (DocumentState → List Token → DocumentAnswer) → Type 0
AgainFits again = (s : DocumentState) (tokens : List Token) → FewPages s → AnswerFits (again s tokens)

module _ (units : Units) where
  reading_fits : (s : DocumentState) (display : Bool) (total : ℕ) (rest : List Token) (r : Reading) → FewPages s → is_page_limit s ≡ false → TurnFits (after_reading units s display total rest r)
  reading_fits s display total rest (ReadFault cause place) f room = tt
  reading_fits s display total rest (Reads body tag) f room = push_page s.pages s.page (record { number = s.count + 1; display = display; body = body; tag = tag }) f room

  expansion_fits : (s : DocumentState) (display : Bool) (rest : List Token) (o : Expansion) → FewPages s → is_page_limit s ≡ false → TurnFits (after_expansion units s display rest o)
  expansion_fits s display rest (Expanded list) f room = by_total (nat_lt max_total_tokens (s.total + length list))
    where
      by_total : (b : Bool) → TurnFits (elim b [ true ↦ Stops (TooManyTokens (s.count + 1) (s.total + length list)) | false ↦ after_reading units s display (s.total + length list) rest (reading s.tables units display list) ])
      by_total true = tt
      by_total false = reading_fits s display (s.total + length list) rest (reading s.tables units display list) f room
  expansion_fits s display rest (OverBudget steps n) f room = tt
  expansion_fits s display rest (NoArgument place) f room = tt
  expansion_fits s display rest (NoPartner place) f room = tt
  expansion_fits s display rest ListTooLong f room = tt

  formula_in_fits : (s : DocumentState) (display : Bool) (left : ℕ) (o : Option Taken) → FewPages s → is_page_limit s ≡ false → TurnFits (formula_in units s display left o)
  formula_in_fits s display left None f room = tt
  formula_in_fits s display left (Some taken) f room = expansion_fits s display taken.after (expansion s.macros taken.argument) f room

  formula_turn_fits : (s : DocumentState) (rest : List Token) (b : Bool) → is_page_limit s ≡ b → FewPages s → TurnFits (formula_turn units s rest b)
  formula_turn_fits s rest true room f = tt
  formula_turn_fits s rest false room f = formula_in_fits s (begins_display rest) (length rest + 1) (between_dollars rest) f room

  pub turn_by_fits : (s : DocumentState) (rest : List Token) (role : OutsideRole) → FewPages s → TurnFits (turn_by units s rest role)
  turn_by_fits s rest Passed f = f
  turn_by_fits s rest Defines f = definition_fits s (length rest + 1) (macro_definition rest) (definition_answered rest) f
  turn_by_fits s rest SetsMathCode f = assignment_fits s (length rest + 1) (math_code_assignment s.tables rest) (math_code_answered s.tables rest) f
  turn_by_fits s rest SetsDelimiterCode f = assignment_fits s (length rest + 1) (delcode_assignment s.tables rest) (delcode_answered s.tables rest) f
  turn_by_fits s rest BeginsFormula f = formula_turn_fits s rest (is_page_limit s) refl f
  turn_by_fits s rest EndsPage f = f
  turn_by_fits s rest EndsDocument f = f
  turn_by_fits s rest Misplaced f = tt

  module _ (whole : ℕ) where
    turn_answer_fits : (again : DocumentState → List Token → DocumentAnswer) → AgainFits again → (turn : DocumentTurn) → TurnFits turn → AnswerFits (turn_answer units whole again turn)
    turn_answer_fits again h (Goes s rest) f = h s rest f
    turn_answer_fits again h (Ends s) f = f
    turn_answer_fits again h (Stops refusal) f = tt
    turn_answer_fits again h (StopsOutside n cause left) f = tt

    pages_fit : (n : ℕ) → AgainFits (pages_from units whole n)
    unfolding pages_from
    pages_fit zero s tokens f = f
    pages_fit (suc n) s [] f = f
    pages_fit (suc n) s (t ∷ rest) f = turn_answer_fits (pages_from units whole n) (pages_fit n) (turn_by units s rest (outside_role t.kind)) (turn_by_fits s rest (outside_role t.kind) f)

  pub pages_few : (tables : CodeTables) (macros : Table) (tokens : List Token) (result : Result (List (List Formula)) DocError) → IsDocument result (document units tables macros tokens) → IfOk result (λ pages. length pages ≤ max_document_pages)
  pages_few tables macros tokens (Ok pages) e = subst AnswerFits e (pages_fit (length tokens) (length tokens) (start_state tables macros) tokens (omega arith))
  pages_few tables macros tokens (Err error) e = tt
