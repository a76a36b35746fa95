-- A turn of tokens is the same with a control word behind them (`turn_apart`), and the same behind the pages of a part
-- (`behind_turn`).
use Rattle.std.proofs.Common.{◌≡◌, ℕ, ◌+◌, ◌≤◌, Bool, true, false, List, [], ◌∷◌, ◌++◌, length, Option, Some, None, refl, sym, ap, ◌∙◌, arith, append_assoc, inl, inr}
use Rattle.std.specs.Prelude.{map, nat_lt, ◌==◌, ◌&&◌, ◌⊎◌, ⊤, Result, Ok, Err, if◌then◌else◌}
use Rattle.std.proofs.lemmas.Bool.Decides.{nat_tests}
use Rattle.std.proofs.lemmas.List.{length-append, length-map, map-append}
use Rattle.mt_token.specs.declared.token.Token.{Token}
use Rattle.mt_token.specs.declared.token.TokenKind.{TokenKind}
use Rattle.mt_token.specs.declared.token.TokenKind.TheVariants.{Control, Char, Space}
use Rattle.mt_token.specs.Character.{character_code}
use Rattle.mt_scaled.specs.declared.unit.Units.{Units}
use Rattle.mt_macro.specs.declared.definition.MacroError.{MacroError}
use Rattle.mt_macro.specs.Braces.{Taken, group, is_open}
use Rattle.mt_macro.specs.Definition.{define}
use Rattle.mt_macro.specs.Expansion.{Expansion, Expanded, OverBudget, NoArgument, NoPartner, ListTooLong, expansion}
use Rattle.mt_macro.specs.Parameters.{first_bad_parameter}
use Rattle.mt_macro.specs.Table.{Table}
use Rattle.mt_plain.specs.CodeTables.{CodeTables}
use Rattle.mt_rules.specs.declared.document.Body.{Body}
use Rattle.mt_rules.specs.declared.document.Formula.{Formula}
use Rattle.mt_rules.specs.declared.document.Tag.{Tag}
use Rattle.mt_scan.specs.Parts.{Read, ReadOr, Got, Fault, NoTurn, IsAnswered, then_read}
use Rattle.mt_formula.specs.Formulas.{Reading, Reads, ReadFault, reading}
use Rattle.mt_reader.specs.declared.outside_cause.OutsideCause.{OutsideCause}
use Rattle.mt_reader.specs.declared.outside_cause.OutsideCause.TheVariants as causes
use Rattle.mt_reader.specs.declared.outside_role.OutsideRole.{OutsideRole}
use Rattle.mt_reader.specs.declared.outside_role.OutsideRole.TheVariants.{Passed, Defines, SetsMathCode, SetsDelimiterCode, BeginsFormula, EndsPage, EndsDocument, Misplaced}
use Rattle.mt_reader.specs.AheadTurns.{IsDecided, IsGot, turn_before}
use Rattle.mt_reader.specs.Answered.{definition_answered, delcode_answered, math_code_answered}
use Rattle.mt_reader.specs.Assignments.{delcode_assignment, math_code_assignment}
use Rattle.mt_reader.specs.Cuts.{IsMuch, fault_behind, later, later_pages}
use Rattle.mt_reader.specs.Definitions.{MacroDefinition, after_parameters, checked_body, definition_body, definition_body_in, definition_by_kind, is_parameter, macro_definition, parameters}
use Rattle.mt_reader.specs.Documents.{DocumentState, DocumentTurn, Goes, Ends, Stops, StopsOutside, NotExpanded, NotRead, TooManyTokens, after_assignment, after_definition, after_expansion, after_page_end, after_reading, formula_in, formula_turn, is_empty_page, is_page_limit, outside_fault, state_pages, turn_by, with_formula, with_page, with_table}
use Rattle.mt_reader.specs.Dollars.{begins_display, between_dollars}
use Rattle.mt_reader.specs.Limits.{max_document_pages, max_total_tokens}
use Rattle.mt_reader.proofs.Ahead.{formula_local, turn_local}
use Rattle.mt_reader.proofs.Fronts.{Front, FrontOf, IsApart, Next, delcode_front, math_code_front}
use Rattle.mt_reader.proofs.Pages.{FewPages}

-- ---- with more tokens behind

pub next_behind : (left more : List Token) → IsApart more → Next left (left ++ more)
next_behind [] more apart = inr apart
next_behind (t ∷ left) more apart = inl refl

assigned_is : (s : DocumentState) (n : ℕ) (tables : CodeTables) (l : List Token) (r : Read CodeTables) (a : IsAnswered r) → r ≡ Got tables l → after_assignment s n r a ≡ Goes (record s { tables = tables }) l
assigned_is s n tables l (Got t left) a e =
    let same : t ≡ tables = cc in
    let rest : left ≡ l = cc in
    ap (λ (x : CodeTables). Goes (record s { tables = x }) left) same ∙ ap (λ (x : List Token). Goes (record s { tables = tables }) x) rest
assigned_is s n tables l (Fault cause at) a e = absurd (cc)
assigned_is s n tables l NoTurn a e = elim a [ ]

-- an assignment with other tokens behind it
pub assigned_again : (read : List Token → Read CodeTables) (answered : (l : List Token) → IsAnswered (read l)) (s : DocumentState) (n m : ℕ) (tables : CodeTables) (ts left more : List Token) → Front read ts left tables → Next left more
    → (all : List Token) → ((f : List Token) → ts ≡ f ++ left → all ≡ f ++ more) → after_assignment s m (read all) (answered all) ≡ Goes (record s { tables = tables }) more
assigned_again read answered s n m tables ts left more f next all is =
    assigned_is s m tables more (read all) (answered all) (ap read (is f.front f.is) ∙ f.again more next)

assignment_apart : (read : List Token → Read CodeTables) (answered : (l : List Token) → IsAnswered (read l)) (s after : DocumentState) (n m : ℕ) (ts rest more : List Token) (r : Read CodeTables) (a : IsAnswered r) → FrontOf read ts r → IsApart more
    → after_assignment s n r a ≡ Goes after rest → after_assignment s m (read (ts ++ more)) (answered (ts ++ more)) ≡ Goes after (rest ++ more)
assignment_apart read answered s after n m ts rest more (Got tables left) a f apart e =
    assigned_again read answered s n m tables ts left (left ++ more) f (next_behind left more apart) (ts ++ more) (λ front is. ap (λ (l : List Token). l ++ more) is ∙ append_assoc front left more)
    ∙ ap (turn_before more) e
assignment_apart read answered s after n m ts rest more (Fault cause at) a f apart e = absurd (cc)
assignment_apart read answered s after n m ts rest more NoTurn a f apart e = elim a [ ]

definition_got : (s after : DocumentState) (n : ℕ) (rest : List Token) (d : ReadOr OutsideCause MacroDefinition) (a : IsAnswered d) → after_definition s n d a ≡ Goes after rest → IsGot d
definition_got s after n rest (Got d left) a e = tt
definition_got s after n rest (Fault cause at) a e = absurd (cc)
definition_got s after n rest NoTurn a e = elim a [ ]

module _ (units : Units) where
  formula_decided : (s after : DocumentState) (ts rest : List Token) (limit : Bool) (taken : Option Taken) → formula_in units s (begins_display ts) (length ts + 1) taken ≡ Goes after rest → IsDecided limit taken
  formula_decided s after ts rest true taken e = tt
  formula_decided s after ts rest false None e = absurd (cc)
  formula_decided s after ts rest false (Some taken) e = tt

  decided : (s after : DocumentState) (ts rest : List Token) (limit : Bool) → formula_turn units s ts limit ≡ Goes after rest → IsDecided limit (between_dollars ts)
  decided s after ts rest true e = tt
  decided s after ts rest false e = formula_decided s after ts rest false (between_dollars ts) e

  pub turn_apart : (s after : DocumentState) (ts rest more : List Token) (role : OutsideRole) → IsApart more → turn_by units s ts role ≡ Goes after rest → turn_by units s (ts ++ more) role ≡ Goes after (rest ++ more)
  turn_apart s after ts rest more Passed apart e = turn_local more units s ts Passed tt ∙ ap (turn_before more) e
  turn_apart s after ts rest more Defines apart e =
      turn_local more units s ts Defines (definition_got s after (length ts + 1) rest (macro_definition ts) (definition_answered ts) e) ∙ ap (turn_before more) e
  turn_apart s after ts rest more SetsMathCode apart e =
      assignment_apart (math_code_assignment s.tables) (math_code_answered s.tables) s after (length ts + 1) (length (ts ++ more) + 1) ts rest more (math_code_assignment s.tables ts) (math_code_answered s.tables ts)
      (math_code_front s.tables ts) apart e
  turn_apart s after ts rest more SetsDelimiterCode apart e =
      assignment_apart (delcode_assignment s.tables) (delcode_answered s.tables) s after (length ts + 1) (length (ts ++ more) + 1) ts rest more (delcode_assignment s.tables ts) (delcode_answered s.tables ts)
      (delcode_front s.tables ts) apart e
  turn_apart s after ts rest more BeginsFormula apart e =
      formula_local more units s ts (is_page_limit s) (decided s after ts rest (is_page_limit s) e) ∙ ap (turn_before more) e
  turn_apart s after ts rest more EndsPage apart e = turn_local more units s ts EndsPage tt ∙ ap (turn_before more) e
  turn_apart s after ts rest more EndsDocument apart e = absurd (cc)
  turn_apart s after ts rest more Misplaced apart e = absurd (cc)

-- ---- how many tokens are left from a fault on

abbrev FaultFits : {C A : Type 0} → ℕ → ReadOr C A → Type 0
FaultFits n (Got part rest) = length rest ≤ n
FaultFits n (Fault cause left) = left ≤ n
FaultFits n NoTurn = ⊤

fit_elim : {C A : Type 0} (n : ℕ) (b : Bool) (x y : ReadOr C A) → FaultFits n x → FaultFits n y → FaultFits n (elim b [ true ↦ x | false ↦ y ])
fit_elim n true x y f g = f
fit_elim n false x y f g = g

fit_if : {C A : Type 0} (n : ℕ) (b : Bool) (x y : ReadOr C A) → FaultFits n x → FaultFits n y → FaultFits n (if b then x else y)
fit_if n true x y f g = f
fit_if n false x y f g = g

after_parameters_fit : (count : ℕ) (t : Token) (rest : List Token) → FaultFits (length rest + 1) (after_parameters count (t ∷ rest))
after_parameters_fit count t rest = fit_if (length rest + 1) (is_open t) (Got count (t ∷ rest)) (Fault causes.BadDefinition (length rest + 1)) (omega arith) (omega arith)

fit_more : {C A : Type 0} (n m : ℕ) (r : ReadOr C A) → n ≤ m → FaultFits n r → FaultFits m r
fit_more n m (Got part rest) le f = omega (arith, le, f)
fit_more n m (Fault cause left) le f = omega (arith, le, f)
fit_more n m NoTurn le f = tt

parameters_fit : (count : ℕ) (ts : List Token) → FaultFits (length ts) (parameters count ts)
parameters_fit count [] = omega arith
parameters_fit count (t ∷ []) = fit_if 1 (is_parameter count t) (Fault causes.BadDefinition 0) (after_parameters count (t ∷ [])) (omega arith) (after_parameters_fit count t [])
parameters_fit count (t ∷ u ∷ rest) =
    fit_elim (length (t ∷ u ∷ rest)) (is_parameter count t) (elim (character_code u.kind == 49 + count) [ true ↦ parameters (count + 1) rest | false ↦ Fault causes.BadDefinition (length rest + 1) ]) (after_parameters count (t ∷ u ∷ rest))
    (fit_elim (length (t ∷ u ∷ rest)) (character_code u.kind == 49 + count) (parameters (count + 1) rest) (Fault causes.BadDefinition (length rest + 1))
    (fit_more (length rest) (length (t ∷ u ∷ rest)) (parameters (count + 1) rest) (omega arith) (parameters_fit (count + 1) rest)) (omega arith))
    (fit_more (length (u ∷ rest) + 1) (length (t ∷ u ∷ rest)) (after_parameters count (t ∷ u ∷ rest)) (omega arith) (after_parameters_fit count t (u ∷ rest)))

-- only where a fault is
abbrev FaultWithin : {C A : Type 0} → ℕ → ReadOr C A → Type 0
FaultWithin n (Got part rest) = ⊤
FaultWithin n (Fault cause left) = left ≤ n
FaultWithin n NoTurn = ⊤

checked_within : (name : List ℕ) (params left : ℕ) (taken : Taken) (bad : Option ℕ) → FaultWithin (left + 1) (checked_body name params left taken bad)
checked_within name params left taken None = tt
checked_within name params left taken (Some place) = omega arith

body_in_within : (name : List ℕ) (params left : ℕ) (o : Option Taken) → FaultWithin (left + 1) (definition_body_in name params left o)
body_in_within name params left None = omega arith
body_in_within name params left (Some taken) = checked_within name params left taken (first_bad_parameter params taken.argument)

within_more : {C A : Type 0} (n m : ℕ) (r : ReadOr C A) → n ≤ m → FaultWithin n r → FaultWithin m r
within_more n m (Got part rest) le f = tt
within_more n m (Fault cause left) le f = omega (arith, le, f)
within_more n m NoTurn le f = tt

body_within : (name : List ℕ) (params : ℕ) (ts : List Token) → FaultWithin (length ts) (definition_body name params ts)
body_within name params [] = omega arith
body_within name params (t ∷ rest) = within_more (length rest + 1) (length (t ∷ rest)) (definition_body name params (t ∷ rest)) (omega arith) (body_in_within name params (length rest) (group 0 rest))

named_within : (name : List ℕ) (n : ℕ) (r : ReadOr OutsideCause ℕ) → FaultFits n r → FaultWithin n (then_read r (definition_body name))
named_within name n (Got params rest) f = within_more (length rest) n (definition_body name params rest) f (body_within name params rest)
named_within name n (Fault cause left) f = f
named_within name n NoTurn f = tt

kind_within : (kind : TokenKind) (rest : List Token) → FaultWithin (length rest + 1) (definition_by_kind kind rest)
kind_within (Control name) rest = within_more (length rest) (length rest + 1) (definition_by_kind (Control name) rest) (omega arith) (named_within name (length rest) (parameters 0 rest) (parameters_fit 0 rest))
kind_within (Char c) rest = omega arith
kind_within Space rest = omega arith

definition_within : (ts : List Token) → FaultWithin (length ts + 1) (macro_definition ts)
definition_within [] = omega arith
definition_within (t ∷ rest) = within_more (length rest + 1) (length (t ∷ rest) + 1) (macro_definition (t ∷ rest)) (omega arith) (kind_within t.kind rest)

-- a fault outside of formulas leaves at most so many tokens
abbrev pub TurnWithin : ℕ → DocumentTurn → Type 0
TurnWithin n (Goes s rest) = ⊤
TurnWithin n (Ends s) = ⊤
TurnWithin n (Stops refusal) = ⊤
TurnWithin n (StopsOutside m cause left) = left ≤ n

table_within : (s : DocumentState) (n : ℕ) (rest : List Token) (made : Result Table MacroError) → TurnWithin n (with_table s n rest made)
table_within s n rest (Ok macros) = tt
table_within s n rest (Err e) = omega arith

after_definition_within : (s : DocumentState) (n : ℕ) (d : ReadOr OutsideCause MacroDefinition) (a : IsAnswered d) → FaultWithin n d → TurnWithin n (after_definition s n d a)
after_definition_within s n (Got d rest) a f = table_within s n rest (define s.macros d.name d.params d.body)
after_definition_within s n (Fault cause at) a f = f
after_definition_within s n NoTurn a f = elim a [ ]

after_assignment_within : (s : DocumentState) (n : ℕ) (r : Read CodeTables) (a : IsAnswered r) → TurnWithin n (after_assignment s n r a)
after_assignment_within s n (Got tables rest) a = tt
after_assignment_within s n (Fault cause at) a = omega arith
after_assignment_within s n NoTurn a = elim a [ ]

module _ (units : Units) where
  reading_within : (s : DocumentState) (display : Bool) (total n : ℕ) (rest : List Token) (r : Reading) → TurnWithin n (after_reading units s display total rest r)
  reading_within s display total n rest (ReadFault cause place) = tt
  reading_within s display total n rest (Reads body tag) = tt

  counted_within : (s : DocumentState) (display : Bool) (n : ℕ) (rest list : List Token) (b : Bool)
      → TurnWithin n (elim b [ true ↦ Stops (TooManyTokens (s.count + 1) (s.total + length list)) | false ↦ after_reading units s display (s.total + length list) rest (reading s.tables units display list) ])
  counted_within s display n rest list true = tt
  counted_within s display n rest list false = reading_within s display (s.total + length list) n rest (reading s.tables units display list)

  expansion_within : (s : DocumentState) (display : Bool) (n : ℕ) (rest : List Token) (o : Expansion) → TurnWithin n (after_expansion units s display rest o)
  expansion_within s display n rest (Expanded list) = counted_within s display n rest list (nat_lt max_total_tokens (s.total + length list))
  expansion_within s display n rest (OverBudget steps k) = tt
  expansion_within s display n rest (NoArgument place) = tt
  expansion_within s display n rest (NoPartner place) = tt
  expansion_within s display n rest ListTooLong = tt

  formula_in_within : (s : DocumentState) (display : Bool) (n : ℕ) (o : Option Taken) → TurnWithin n (formula_in units s display n o)
  formula_in_within s display n None = omega arith
  formula_in_within s display n (Some taken) = expansion_within s display n taken.after (expansion s.macros taken.argument)

  formula_within : (s : DocumentState) (rest : List Token) (b : Bool) → TurnWithin (length rest + 1) (formula_turn units s rest b)
  formula_within s rest true = tt
  formula_within s rest false = formula_in_within s (begins_display rest) (length rest + 1) (between_dollars rest)

  pub turn_within : (s : DocumentState) (rest : List Token) (role : OutsideRole) → TurnWithin (length rest + 1) (turn_by units s rest role)
  turn_within s rest Passed = tt
  turn_within s rest Defines = after_definition_within s (length rest + 1) (macro_definition rest) (definition_answered rest) (definition_within rest)
  turn_within s rest SetsMathCode = after_assignment_within s (length rest + 1) (math_code_assignment s.tables rest) (math_code_answered s.tables rest)
  turn_within s rest SetsDelimiterCode = after_assignment_within s (length rest + 1) (delcode_assignment s.tables rest) (delcode_answered s.tables rest)
  turn_within s rest BeginsFormula = formula_within s rest (is_page_limit s)
  turn_within s rest EndsPage = tt
  turn_within s rest EndsDocument = tt
  turn_within s rest Misplaced = omega arith

-- ---- behind the pages of a part

-- what has been read, behind what was read of the part
abbrev pub behind : DocumentState → DocumentState → DocumentState
behind first s = record {
  tables = s.tables;
  macros = s.macros;
  pages = first.pages ++ later_pages first.count s.pages;
  page = map (later first.count) s.page;
  count = first.count + s.count;
  total = first.total + s.total;
}

abbrev pub TurnIsMuch : DocumentTurn → Type 0
TurnIsMuch (Goes s rest) = ⊥
TurnIsMuch (Ends s) = ⊥
TurnIsMuch (Stops refusal) = IsMuch refusal
TurnIsMuch (StopsOutside n cause left) = ⊥

module _ (first : DocumentState) (passed : ℕ) where
  -- the same turn behind a part of so many tokens
  abbrev pub turn_behind : DocumentTurn → DocumentTurn
  turn_behind (Goes s rest) = Goes (behind first s) rest
  turn_behind (Ends s) = Ends (behind first s)
  turn_behind (Stops refusal) = Stops (fault_behind first passed refusal)
  turn_behind (StopsOutside n cause left) = StopsOutside (first.count + n) cause left

  abbrev pub Behind : DocumentTurn → DocumentTurn → Type 0
  Behind turn other = TurnIsMuch turn ⊎ (turn ≡ turn_behind other)

  next_count : (n : ℕ) → (first.count + n) + 1 ≡ first.count + (n + 1)
  next_count n = omega arith

  fault_here : (s : DocumentState) (cause : OutsideCause) (left : ℕ) → outside_fault (behind first s) cause left ≡ turn_behind (outside_fault s cause left)
  fault_here s cause left = ap (λ (n : ℕ). StopsOutside n cause left) (next_count s.count)

  table_behind : (s : DocumentState) (left : ℕ) (rest : List Token) (made : Result Table MacroError) → with_table (behind first s) left rest made ≡ turn_behind (with_table s left rest made)
  table_behind s left rest (Ok macros) = refl
  table_behind s left rest (Err e) = fault_here s causes.TooManyNames left

  definition_behind : (s : DocumentState) (left : ℕ) (d : ReadOr OutsideCause MacroDefinition) (a : IsAnswered d) → after_definition (behind first s) left d a ≡ turn_behind (after_definition s left d a)
  definition_behind s left (Fault cause at) a = fault_here s cause at
  definition_behind s left NoTurn a = elim a [ ]
  definition_behind s left (Got d rest) a = table_behind s left rest (define s.macros d.name d.params d.body)

  assignment_behind : (s : DocumentState) (left : ℕ) (r : Read CodeTables) (a : IsAnswered r) → after_assignment (behind first s) left r a ≡ turn_behind (after_assignment s left r a)
  assignment_behind s left (Fault cause at) a = fault_here s causes.BadAssignment left
  assignment_behind s left NoTurn a = elim a [ ]
  assignment_behind s left (Got tables rest) a = refl

  -- the pages that are ended
  pages_pushed : (pages : List (List Formula)) (page : List Formula) → with_page (first.pages ++ later_pages first.count pages) (map (later first.count) page) ≡ first.pages ++ later_pages first.count (with_page pages page)
  pages_pushed pages [] = refl
  pages_pushed pages (f ∷ fs) =
      append_assoc first.pages (later_pages first.count pages) (map (later first.count) (f ∷ fs) ∷ [])
      ∙ ap (λ (l : List (List Formula)). first.pages ++ l) (sym (map-append (map (later first.count)) pages ((f ∷ fs) ∷ [])))

  pub pages_behind : (s : DocumentState) → state_pages (behind first s) ≡ first.pages ++ later_pages first.count (state_pages s)
  pages_behind s = pages_pushed s.pages s.page

  end_behind : (s : DocumentState) → after_page_end (behind first s) ≡ behind first (after_page_end s)
  end_behind s = ap (λ (l : List (List Formula)). record (behind first s) { pages = l; page = [] }) (pages_pushed s.pages s.page)

  formula_behind : (s : DocumentState) (display : Bool) (count : ℕ) (body : Body) (tag : Option Tag)
      → with_formula (behind first s) display ((first.total + s.total) + count) body tag ≡ behind first (with_formula s display (s.total + count) body tag)
  formula_behind s display count body tag =
      let formula = λ (n : ℕ). let f : Formula = record { number = n; display = display; body = body; tag = tag } in f in
      let made = λ (page : List Formula) (n total : ℕ). let d : DocumentState = record (behind first s) { page = page; count = n; total = total } in d in
      let total : (first.total + s.total) + count ≡ first.total + (s.total + count) = omega arith in
      ap (λ (n : ℕ). made (map (later first.count) s.page ++ formula n ∷ []) n ((first.total + s.total) + count)) (next_count s.count)
      ∙ (ap (made (map (later first.count) s.page ++ formula (first.count + (s.count + 1)) ∷ []) (first.count + (s.count + 1))) total
      ∙ ap (λ (page : List Formula). made page (first.count + (s.count + 1)) (first.total + (s.total + count))) (sym (map-append (later first.count) s.page (formula (s.count + 1) ∷ []))))

  module _ (units : Units) where
    reading_behind : (s : DocumentState) (display : Bool) (count : ℕ) (rest : List Token) (r : Reading)
        → after_reading units (behind first s) display ((first.total + s.total) + count) rest r ≡ turn_behind (after_reading units s display (s.total + count) rest r)
    reading_behind s display count rest (ReadFault cause place) = ap (λ (n : ℕ). Stops (NotRead n cause place)) (next_count s.count)
    reading_behind s display count rest (Reads body tag) = ap (λ (d : DocumentState). Goes d rest) (formula_behind s display count body tag)

    counted_behind : (s : DocumentState) (display : Bool) (rest list : List Token) (b c : Bool) → nat_lt max_total_tokens ((first.total + s.total) + length list) ≡ b → nat_lt max_total_tokens (s.total + length list) ≡ c
        → Behind
        (elim b [ true ↦ Stops (TooManyTokens ((first.count + s.count) + 1) ((first.total + s.total) + length list)) | false ↦ after_reading units (behind first s) display ((first.total + s.total) + length list) rest (reading s.tables units display list) ])
        (elim c [ true ↦ Stops (TooManyTokens (s.count + 1) (s.total + length list)) | false ↦ after_reading units s display (s.total + length list) rest (reading s.tables units display list) ])
    counted_behind s display rest list true c e f = inl tt
    counted_behind s display rest list false true e f = absurd (more (first.total) (s.total + length list) ((first.total + s.total) + length list) (omega arith) e f) where
      more : (n m k : ℕ) → k ≡ n + m → nat_lt max_total_tokens k ≡ false → nat_lt max_total_tokens m ≡ true → ⊥
      more n m k is e f = grind (arith, nat_tests, is)
    counted_behind s display rest list false false e f = inr (reading_behind s display (length list) rest (reading s.tables units display list))

    expansion_behind : (s : DocumentState) (display : Bool) (rest : List Token) (o : Expansion) → Behind (after_expansion units (behind first s) display rest o) (after_expansion units s display rest o)
    expansion_behind s display rest (Expanded list) =
        counted_behind s display rest list (nat_lt max_total_tokens ((first.total + s.total) + length list)) (nat_lt max_total_tokens (s.total + length list)) refl refl
    expansion_behind s display rest (OverBudget steps n) = inr (ap (λ (k : ℕ). Stops (NotExpanded k (OverBudget steps n))) (next_count s.count))
    expansion_behind s display rest (NoArgument place) = inr (ap (λ (k : ℕ). Stops (NotExpanded k (NoArgument place))) (next_count s.count))
    expansion_behind s display rest (NoPartner place) = inr (ap (λ (k : ℕ). Stops (NotExpanded k (NoPartner place))) (next_count s.count))
    expansion_behind s display rest ListTooLong = inr (ap (λ (k : ℕ). Stops (NotExpanded k ListTooLong)) (next_count s.count))

    formula_in_behind : (s : DocumentState) (display : Bool) (left : ℕ) (o : Option Taken) → Behind (formula_in units (behind first s) display left o) (formula_in units s display left o)
    formula_in_behind s display left None = inr (fault_here s causes.OpenFormula left)
    formula_in_behind s display left (Some taken) = expansion_behind s display taken.after (expansion s.macros taken.argument)

    -- where there is a page too many, there is one behind the part
    limit_behind : (s : DocumentState) (page : List Formula) → page ≡ s.page → length (with_page (first.pages ++ later_pages first.count s.pages) (map (later first.count) page)) ≤ max_document_pages
        → (is_empty_page (map (later first.count) page) && (length (first.pages ++ later_pages first.count s.pages) == max_document_pages)) ≡ false
        → (is_empty_page page && (length s.pages == max_document_pages)) ≡ true → ⊥
    limit_behind s [] is few e f =
        let all : length (first.pages ++ later_pages first.count s.pages) ≡ length first.pages + length s.pages =
        length-append first.pages (later_pages first.count s.pages) ∙ ap (λ (n : ℕ). length first.pages + n) (length-map s.pages (map (later first.count))) in
        numbers (length first.pages) (length s.pages) (length (first.pages ++ later_pages first.count s.pages)) all few e f where
          numbers : (n m k : ℕ) → k ≡ n + m → k ≤ max_document_pages → (k == max_document_pages) ≡ false → (m == max_document_pages) ≡ true → ⊥
          numbers n m k is few e f = grind (arith, nat_tests, is, few)
    limit_behind s (g ∷ gs) is few e f = absurd (cc)

    begun_behind : (s : DocumentState) (rest : List Token) (b c : Bool) → is_page_limit (behind first s) ≡ b → is_page_limit s ≡ c → FewPages (behind first s) → Behind (formula_turn units (behind first s) rest b) (formula_turn units s rest c)
    begun_behind s rest true c e f few = inl tt
    begun_behind s rest false true e f few = absurd (limit_behind s s.page refl few e f)
    begun_behind s rest false false e f few = formula_in_behind s (begins_display rest) (length rest + 1) (between_dollars rest)

    pub behind_turn : (s : DocumentState) (rest : List Token) (role : OutsideRole) → FewPages (behind first s) → Behind (turn_by units (behind first s) rest role) (turn_by units s rest role)
    behind_turn s rest Passed few = inr refl
    behind_turn s rest Defines few = inr (definition_behind s (length rest + 1) (macro_definition rest) (definition_answered rest))
    behind_turn s rest SetsMathCode few = inr (assignment_behind s (length rest + 1) (math_code_assignment s.tables rest) (math_code_answered s.tables rest))
    behind_turn s rest SetsDelimiterCode few = inr (assignment_behind s (length rest + 1) (delcode_assignment s.tables rest) (delcode_answered s.tables rest))
    behind_turn s rest BeginsFormula few = begun_behind s rest (is_page_limit (behind first s)) (is_page_limit s) refl refl few
    behind_turn s rest EndsPage few = inr (ap (λ (d : DocumentState). Goes d rest) (end_behind s))
    behind_turn s rest EndsDocument few = inr refl
    behind_turn s rest Misplaced few = inr (fault_here s causes.Misplaced (length rest + 1))
