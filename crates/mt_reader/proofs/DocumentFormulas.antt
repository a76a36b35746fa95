-- What holds of each formula that is read holds of all formulas of a document.
use Rattle.std.proofs.Common.{◌≡◌, ℕ, zero, suc, ◌+◌, ◌*◌, ◌≤◌, Bool, true, false, List, [], ◌∷◌, length, refl, arith, subst}
use Rattle.std.specs.Prelude.{Option, Some, None, Result, Ok, Err, IfOk, All, nat_lt, ⊤}
use Rattle.std.proofs.lemmas.List.Elements.{All-nil, All-cons, All-append}
use Rattle.mt_token.specs.declared.token.Token.{Token}
use Rattle.mt_scaled.specs.declared.unit.Units.{Units}
use Rattle.mt_macro.specs.declared.definition.MacroError.{MacroError}
use Rattle.mt_macro.specs.Braces.{Taken}
use Rattle.mt_macro.specs.Table.{Table}
use Rattle.mt_macro.specs.Definition.{define}
use Rattle.mt_macro.specs.Expansion.{Expansion, Expanded, OverBudget, NoArgument, NoPartner, ListTooLong, expansion}
use Rattle.mt_plain.specs.CodeTables.{CodeTables}
use Rattle.mt_rules.specs.declared.document.Body.{Body}
use Rattle.mt_rules.specs.declared.document.Body.TheVariants.{List as ListBody, Equations, Lines}
use Rattle.mt_rules.specs.declared.document.Equation.{Equation}
use Rattle.mt_rules.specs.Modest.{rows_items}
use Rattle.mt_rules.specs.Sequence.{Rows, NoRows, MoreRows, rows_length}
use Rattle.mt_formula.specs.Counts.{body_items, body_rows, equations_items}
use Rattle.mt_rules.specs.declared.document.Formula.{Formula}
use Rattle.mt_rules.specs.declared.document.Tag.{Tag}
use Rattle.mt_reader.specs.declared.outside_cause.OutsideCause.{OutsideCause}
use Rattle.mt_reader.specs.declared.outside_role.OutsideRole.{OutsideRole}
use Rattle.mt_reader.specs.declared.outside_role.OutsideRole.TheVariants.{Passed, Defines, SetsMathCode, SetsDelimiterCode, BeginsFormula, EndsPage, EndsDocument, Misplaced}
use Rattle.mt_reader.specs.declared.document_error.DocError.{DocError}
use Rattle.mt_scan.specs.Parts.{Read, ReadOr, Got, Fault, NoTurn, IsAnswered}
use Rattle.mt_formula.specs.Formulas.{Reading, Reads, ReadFault, reading}
use Rattle.mt_reader.specs.Definitions.{MacroDefinition, macro_definition}
use Rattle.mt_reader.specs.Assignments.{math_code_assignment, delcode_assignment}
use Rattle.mt_reader.specs.Dollars.{begins_display, between_dollars}
use Rattle.mt_reader.specs.Documents.{DocumentState, DocumentAnswer, DocumentTurn, Goes, Ends, Stops, StopsOutside, TooManyTokens, start_state, with_page, with_table, after_definition, after_assignment, is_page_limit, after_reading, after_expansion, formula_in, formula_turn, turn_by, turn_answer, outside_role, pages_from, document}
use Rattle.mt_reader.specs.Refusals.{IsDocument}
use Rattle.mt_reader.specs.Weights.{HasFewItems, HaveFewItems, HasModestLists, IsModestDocument}
use Rattle.mt_formula.proofs.ItemBounds.{HasAtMost, reading_bound}
use Rattle.mt_formula.proofs.Nesting.{formula_modest}
use Rattle.mt_reader.proofs.Expanding.{expanded_short}
use Rattle.mt_reader.specs.Tags.{HasTagPlaced, HaveTagsPlaced}
use Rattle.mt_formula.proofs.Tagging.{formula_tagged}
use Rattle.mt_reader.specs.Limits.{max_total_tokens}
use Rattle.mt_macro.specs.Limits.{max_tokens}
use Rattle.mt_reader.specs.Answered.{definition_answered, math_code_answered, delcode_answered}

module _ (P : Formula → Type 0) (units : Units) where
  abbrev pub HoldsOfRead : Type 0
  HoldsOfRead = (tables : CodeTables) (display : Bool) (list : List Token) (body : Body) (tag : Option Tag) (n : ℕ) → length list ≤ max_tokens → reading tables units display list ≡ Reads body tag → P (record { number = n; display = display; body = body; tag = tag })

  abbrev pub OfPages : List (List Formula) → Type 0
  OfPages pages = All (All P) pages

  pub record OfState (s : DocumentState) : Type 0 where
    pub pages : All (All P) s.pages
    pub page : All P s.page

  abbrev pub OfTurn : DocumentTurn → Type 0
  OfTurn (Goes s rest) = OfState s
  OfTurn (Ends s) = OfState s
  OfTurn (Stops refusal) = ⊤
  OfTurn (StopsOutside n cause left) = ⊤

  abbrev OfAnswer : DocumentAnswer → Type 0
  OfAnswer (Ok pages) = All (All P) pages
  OfAnswer (Err fault) = ⊤

  page_ended : (pages : List (List Formula)) (page : List Formula) → All (All P) pages → All P page → All (All P) (with_page pages page)
  page_ended pages [] ps p = ps
  page_ended pages (e ∷ es) ps p = All-append (All P) pages ((e ∷ es) ∷ []) ps (All-cons (All P) (e ∷ es) [] p (All-nil (All P)))

  defined : (s : DocumentState) (left : ℕ) (rest : List Token) (r : Result Table MacroError) → OfState s → OfTurn (with_table s left rest r)
  defined s left rest (Ok macros) h = record { pages = h.pages; page = h.page }
  defined s left rest (Err e) h = tt

  definition_read : (s : DocumentState) (left : ℕ) (r : ReadOr OutsideCause MacroDefinition) (a : IsAnswered r) → OfState s → OfTurn (after_definition s left r a)
  definition_read s left (Got d rest) a h = defined s left rest (define s.macros d.name d.params d.body) h
  definition_read s left (Fault cause at) a h = tt
  definition_read s left NoTurn a h = elim a [ ]

  assigned : (s : DocumentState) (left : ℕ) (r : Read CodeTables) (a : IsAnswered r) → OfState s → OfTurn (after_assignment s left r a)
  assigned s left (Got tables rest) a h = record { pages = h.pages; page = h.page }
  assigned s left (Fault cause at) a h = tt
  assigned s left NoTurn a h = elim a [ ]

  module _ (reads : HoldsOfRead) where
    formula_put : (s : DocumentState) (display : Bool) (total : ℕ) (rest list : List Token) (r : Reading) → OfState s → length list ≤ max_tokens → reading s.tables units display list ≡ r → OfTurn (after_reading units s display total rest r)
    formula_put s display total rest list (ReadFault cause place) h few e = tt
    formula_put s display total rest list (Reads body tag) h few e = record {
      pages = h.pages;
      page = All-append P s.page (record { number = s.count + 1; display = display; body = body; tag = tag } ∷ []) h.page (All-cons P _ [] (reads s.tables display list body tag (s.count + 1) few e) (All-nil P));
    }

    expanded : (s : DocumentState) (display : Bool) (rest given : List Token) (e : Expansion) → OfState s → expansion s.macros given ≡ e → OfTurn (after_expansion units s display rest e)
    expanded s display rest given (Expanded list) h e =
        elim (nat_lt max_total_tokens (s.total + length list)) as (λ b. OfTurn (elim b [ true ↦ Stops (TooManyTokens (s.count + 1) (s.total + length list)) | false ↦ after_reading units s display (s.total + length list) rest (reading s.tables units display list) ]))
        [ true ↦ tt | false ↦ formula_put s display (s.total + length list) rest list (reading s.tables units display list) h (expanded_short s.macros given list e) refl ]
    expanded s display rest given (OverBudget steps size) h e = tt
    expanded s display rest given (NoArgument place) h e = tt
    expanded s display rest given (NoPartner place) h e = tt
    expanded s display rest given ListTooLong h e = tt

    between : (s : DocumentState) (display : Bool) (left : ℕ) (t : Option Taken) → OfState s → OfTurn (formula_in units s display left t)
    between s display left None h = tt
    between s display left (Some taken) h = expanded s display taken.after taken.argument (expansion s.macros taken.argument) h refl

    begun : (s : DocumentState) (rest : List Token) (b : Bool) → OfState s → OfTurn (formula_turn units s rest b)
    begun s rest true h = tt
    begun s rest false h = between s (begins_display rest) (length rest + 1) (between_dollars rest) h

    turned : (s : DocumentState) (rest : List Token) (role : OutsideRole) → OfState s → OfTurn (turn_by units s rest role)
    turned s rest Passed h = h
    turned s rest Defines h = definition_read s (length rest + 1) (macro_definition rest) (definition_answered rest) h
    turned s rest SetsMathCode h = assigned s (length rest + 1) (math_code_assignment s.tables rest) (math_code_answered s.tables rest) h
    turned s rest SetsDelimiterCode h = assigned s (length rest + 1) (delcode_assignment s.tables rest) (delcode_answered s.tables rest) h
    turned s rest BeginsFormula h = begun s rest (is_page_limit s) h
    turned s rest EndsPage h = record { pages = page_ended s.pages s.page h.pages h.page; page = All-nil P }
    turned s rest EndsDocument h = h
    turned s rest Misplaced h = tt

    answered : (whole : ℕ) (again : DocumentState → List Token → DocumentAnswer) (turn : DocumentTurn) → ((s : DocumentState) (rest : List Token) → OfState s → OfAnswer (again s rest)) → OfTurn turn → OfAnswer (turn_answer units whole again turn)
    answered whole again (Goes s rest) more h = more s rest h
    answered whole again (Ends s) more h = page_ended s.pages s.page h.pages h.page
    answered whole again (Stops refusal) more h = tt
    answered whole again (StopsOutside n cause left) more h = tt

    all_from : (whole turns : ℕ) (s : DocumentState) (tokens : List Token) → OfState s → OfAnswer (pages_from units whole turns s tokens)
    unfolding pages_from
    all_from whole zero s tokens h = page_ended s.pages s.page h.pages h.page
    all_from whole (suc turns) s [] h = page_ended s.pages s.page h.pages h.page
    all_from whole (suc turns) s (t ∷ rest) h = answered whole (pages_from units whole turns) (turn_by units s rest (outside_role t.kind)) (all_from whole turns) (turned s rest (outside_role t.kind) h)

    pub all_formulas : (tables : CodeTables) (macros : Table) (tokens : List Token) (result : Result (List (List Formula)) DocError) → IsDocument result (document units tables macros tokens) → IfOk result OfPages
    all_formulas tables macros tokens (Ok pages) e = subst OfAnswer e (all_from (length tokens) (length tokens) (start_state tables macros) tokens (record { pages = All-nil (All P); page = All-nil P }))
    all_formulas tables macros tokens (Err error) e = tt

-- at most four items for each token
few_items : (units : Units) → HoldsOfRead HasFewItems units
few_items units tables display list body tag n few e = omega (arith, few, subst (HasAtMost (4 * length list)) e (reading_bound tables units display list))

pub formulas_few : (units : Units) (tables : CodeTables) (macros : Table) (tokens : List Token) (result : Result (List (List Formula)) DocError) → IsDocument result (document units tables macros tokens) → IfOk result HaveFewItems
formulas_few units tables macros tokens result e = all_formulas HasFewItems units (few_items units) tables macros tokens result e

equations_few : (rows : List Equation) → length rows ≤ equations_items rows
equations_few [] = omega arith
equations_few (e ∷ es) = omega (arith, equations_few es)

lines_few : (rows : Rows) → rows_length rows ≤ rows_items rows
lines_few NoRows = omega arith
lines_few (MoreRows row rows) = omega (arith, lines_few rows)

rows_few : (body : Body) → body_rows body ≤ body_items body
rows_few (ListBody list) = omega arith
rows_few (Equations left rows) = equations_few rows
rows_few (Lines rows) = lines_few rows

modest : (units : Units) → HoldsOfRead HasModestLists units
modest units tables display list body tag n few e = record {
  lists = formula_modest tables units display list (body, tag) e few;
  rows = omega (arith, few_items units tables display list body tag n few e, rows_few body);
}

pub formulas_modest : (units : Units) (tables : CodeTables) (macros : Table) (tokens : List Token) (result : Result (List (List Formula)) DocError) → IsDocument result (document units tables macros tokens) → IfOk result IsModestDocument
formulas_modest units tables macros tokens result e = all_formulas HasModestLists units (modest units) tables macros tokens result e

tagged : (units : Units) → HoldsOfRead HasTagPlaced units
tagged units tables display list body tag n few e = formula_tagged tables units display list body tag e

-- the number of a formula is beside the list of a display
pub formulas_tagged : (units : Units) (tables : CodeTables) (macros : Table) (tokens : List Token) (result : Result (List (List Formula)) DocError) → IsDocument result (document units tables macros tokens) → IfOk result HaveTagsPlaced
formulas_tagged units tables macros tokens result e = all_formulas HasTagPlaced units (tagged units) tables macros tokens result e

pub turn_modest : (units : Units) (s : DocumentState) (rest : List Token) (role : OutsideRole) → OfState HasModestLists units s → OfTurn HasModestLists units (turn_by units s rest role)
turn_modest units s rest role h = turned HasModestLists units (modest units) s rest role h
