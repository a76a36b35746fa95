-- What a turn does does not depend on the pages before, but on their number.
use Rattle.std.proofs.Common.{◌≡◌, ℕ, zero, suc, ◌+◌, refl, ap, ◌∙◌, Bool, true, false, List, [], length, Option, Some, None}
use Rattle.std.specs.Prelude.{nat_lt, ◌==◌, ◌&&◌, replicate, All, Result, Ok, Err}
use Rattle.std.proofs.lemmas.List.Elements.{All-cons, All-nil}
use Rattle.mt_token.specs.declared.token.Token.{Token}
use Rattle.mt_scaled.specs.declared.unit.Units.{Units}
use Rattle.mt_macro.specs.declared.definition.MacroError.{MacroError}
use Rattle.mt_macro.specs.Braces.{Taken}
use Rattle.mt_macro.specs.Table.{Table}
use Rattle.mt_macro.specs.Definition.{define}
use Rattle.mt_macro.specs.Expansion.{Expansion, Expanded, OverBudget, NoArgument, NoPartner, ListTooLong, expansion}
use Rattle.mt_rules.specs.declared.document.Formula.{Formula}
use Rattle.mt_plain.specs.CodeTables.{CodeTables}
use Rattle.mt_reader.specs.declared.outside_cause.OutsideCause.{OutsideCause}
use Rattle.mt_reader.specs.declared.outside_role.OutsideRole.{OutsideRole}
use Rattle.mt_reader.specs.declared.outside_role.OutsideRole.TheVariants.{Passed, Defines, SetsMathCode, SetsDelimiterCode, BeginsFormula, EndsPage, EndsDocument, Misplaced}
use Rattle.mt_scan.specs.Parts.{Read, ReadOr, Got, Fault, NoTurn, IsAnswered}
use Rattle.mt_formula.specs.Formulas.{Reading, Reads, ReadFault, reading}
use Rattle.mt_reader.specs.Definitions.{MacroDefinition, macro_definition}
use Rattle.mt_reader.specs.Assignments.{math_code_assignment, delcode_assignment}
use Rattle.mt_reader.specs.Dollars.{begins_display, between_dollars}
use Rattle.mt_reader.specs.Documents.{DocumentState, DocumentTurn, Goes, Ends, Stops, StopsOutside, TooManyTokens, with_table, after_definition, after_assignment, is_empty_page, is_page_limit, after_reading, after_expansion, formula_in, formula_turn, turn_by}
use Rattle.mt_reader.specs.DocumentTurns.{ends_page}
use Rattle.mt_reader.specs.Limits.{max_total_tokens, max_document_pages}
use Rattle.mt_reader.specs.Answered.{definition_answered, math_code_answered, delcode_answered}

pub placeholders : (n : ℕ) → length (replicate {A = List Formula} n []) ≡ n
placeholders zero = refl
placeholders (suc n) = ap suc (placeholders n)

pub placeholders_hold : (P : Formula → Type 0) (n : ℕ) → All (All P) (replicate n [])
placeholders_hold P zero = All-nil (All P)
placeholders_hold P (suc n) = All-cons (All P) [] (replicate n []) (All-nil P) (placeholders_hold P n)

module _ (read : List (List Formula)) where
  abbrev after : DocumentState → DocumentState
  after s = record s { pages = read }

  -- the same turn after these pages
  abbrev pub turn_after : DocumentTurn → DocumentTurn
  turn_after (Goes s rest) = Goes (after s) rest
  turn_after (Ends s) = Ends (after s)
  turn_after (Stops refusal) = Stops refusal
  turn_after (StopsOutside n cause left) = StopsOutside n cause left

  table_after : (s : DocumentState) (left : ℕ) (rest : List Token) (made : Result Table MacroError) → with_table (after s) left rest made ≡ turn_after (with_table s left rest made)
  table_after s left rest (Ok macros) = refl
  table_after s left rest (Err e) = refl

  definition_after : (s : DocumentState) (left : ℕ) (d : ReadOr OutsideCause MacroDefinition) (a : IsAnswered d) → after_definition (after s) left d a ≡ turn_after (after_definition s left d a)
  definition_after s left (Fault cause at) a = refl
  definition_after s left NoTurn a = elim a [ ]
  definition_after s left (Got d rest) a = table_after s left rest (define s.macros d.name d.params d.body)

  assignment_after : (s : DocumentState) (left : ℕ) (r : Read CodeTables) (a : IsAnswered r) → after_assignment (after s) left r a ≡ turn_after (after_assignment s left r a)
  assignment_after s left (Fault cause at) a = refl
  assignment_after s left NoTurn a = elim a [ ]
  assignment_after s left (Got tables rest) a = refl

  module _ (units : Units) where
    reading_after : (s : DocumentState) (display : Bool) (total : ℕ) (rest : List Token) (r : Reading) → after_reading units (after s) display total rest r ≡ turn_after (after_reading units s display total rest r)
    reading_after s display total rest (ReadFault cause place) = refl
    reading_after s display total rest (Reads body tag) = refl

    counted_after : (s : DocumentState) (display : Bool) (rest list : List Token) (b : Bool)
        → (elim b [ true ↦ Stops (TooManyTokens (s.count + 1) (s.total + length list)) | false ↦ after_reading units (after s) display (s.total + length list) rest (reading s.tables units display list) ])
        ≡ turn_after (elim b [ true ↦ Stops (TooManyTokens (s.count + 1) (s.total + length list)) | false ↦ after_reading units s display (s.total + length list) rest (reading s.tables units display list) ])
    counted_after s display rest list true = refl
    counted_after s display rest list false = reading_after s display (s.total + length list) rest (reading s.tables units display list)

    expansion_after : (s : DocumentState) (display : Bool) (rest : List Token) (o : Expansion) → after_expansion units (after s) display rest o ≡ turn_after (after_expansion units s display rest o)
    expansion_after s display rest (Expanded list) = counted_after s display rest list (nat_lt max_total_tokens (s.total + length list))
    expansion_after s display rest (OverBudget steps n) = refl
    expansion_after s display rest (NoArgument place) = refl
    expansion_after s display rest (NoPartner place) = refl
    expansion_after s display rest ListTooLong = refl

    formula_in_after : (s : DocumentState) (display : Bool) (left : ℕ) (o : Option Taken) → formula_in units (after s) display left o ≡ turn_after (formula_in units s display left o)
    formula_in_after s display left None = refl
    formula_in_after s display left (Some taken) = expansion_after s display taken.after (expansion s.macros taken.argument)

    formula_after : (s : DocumentState) (rest : List Token) (b : Bool) → formula_turn units (after s) rest b ≡ turn_after (formula_turn units s rest b)
    formula_after s rest true = refl
    formula_after s rest false = formula_in_after s (begins_display rest) (length rest + 1) (between_dollars rest)

    pub same_turn : (s : DocumentState) (rest : List Token) (role : OutsideRole) → length read ≡ length s.pages → ends_page role ≡ false → turn_by units (after s) rest role ≡ turn_after (turn_by units s rest role)
    same_turn s rest Passed same goes_on = refl
    same_turn s rest Defines same goes_on = definition_after s (length rest + 1) (macro_definition rest) (definition_answered rest)
    same_turn s rest SetsMathCode same goes_on = assignment_after s (length rest + 1) (math_code_assignment s.tables rest) (math_code_answered s.tables rest)
    same_turn s rest SetsDelimiterCode same goes_on = assignment_after s (length rest + 1) (delcode_assignment s.tables rest) (delcode_answered s.tables rest)
    same_turn s rest BeginsFormula same goes_on =
        ap (λ (n : ℕ). formula_turn units (after s) rest (is_empty_page s.page && (n == max_document_pages))) same
        ∙ formula_after s rest (is_page_limit s)
    same_turn s rest EndsPage same goes_on = absurd (cc)
    same_turn s rest EndsDocument same goes_on = refl
    same_turn s rest Misplaced same goes_on = refl
