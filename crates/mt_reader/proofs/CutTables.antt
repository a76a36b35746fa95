-- The definitions and assignments of tokens leave by themselves the codes and macros that all of the tokens leave
-- (`same_definitions`).
use Rattle.std.proofs.Common.{◌≡◌, ℕ, zero, suc, ◌+◌, ◌-◌, ◌≤◌, Bool, true, false, List, [], ◌∷◌, ◌++◌, length, take, Option, Some, None, refl, sym, ap, subst, ◌∙◌, arith, inr}
use Rattle.std.specs.Prelude.{nat_lt, ◌==◌, ◌&&◌, ⊤, Result, Ok, Err, if◌then◌else◌}
use Rattle.std.proofs.lemmas.List.{length-append}
use Rattle.mt_token.specs.declared.token.Token.{Token}
use Rattle.mt_token.specs.declared.token.TokenKind.{TokenKind}
use Rattle.mt_token.specs.declared.token.TokenKind.TheVariants.{Control, Char, Space}
use Rattle.mt_scaled.specs.declared.unit.Units.{Units}
use Rattle.mt_macro.specs.declared.definition.MacroError.{MacroError}
use Rattle.mt_macro.specs.Braces.{Taken}
use Rattle.mt_macro.specs.Definition.{define}
use Rattle.mt_macro.specs.Expansion.{Expansion, Expanded, OverBudget, NoArgument, NoPartner, ListTooLong, expansion}
use Rattle.mt_macro.specs.Table.{Table}
use Rattle.mt_plain.specs.CodeTables.{CodeTables}
use Rattle.mt_scan.specs.Parts.{Read, ReadOr, Got, Fault, NoTurn, IsAnswered}
use Rattle.mt_formula.specs.Formulas.{Reading, Reads, ReadFault, reading}
use Rattle.mt_reader.specs.declared.outside_cause.OutsideCause.{OutsideCause}
use Rattle.mt_reader.specs.declared.outside_role.OutsideRole.{OutsideRole}
use Rattle.mt_reader.specs.declared.outside_role.OutsideRole.TheVariants.{Passed, Defines, SetsMathCode, SetsDelimiterCode, BeginsFormula, EndsPage, EndsDocument, Misplaced}
use Rattle.mt_reader.specs.Answered.{definition_answered, delcode_answered, math_code_answered}
use Rattle.mt_reader.specs.Assignments.{delcode_assignment, math_code_assignment}
use Rattle.mt_reader.specs.Cuts.{IsWord, after_from, after_turn, defined_by, defined_turn, definitions_from, definitions_of, state_after}
use Rattle.mt_reader.specs.Definitions.{MacroDefinition, macro_definition}
use Rattle.mt_reader.specs.Documents.{DocumentState, DocumentTurn, Goes, Ends, Stops, StopsOutside, TooManyTokens, after_assignment, after_definition, after_expansion, after_page_end, after_reading, formula_in, formula_turn, is_page_limit, outside_name_role, outside_role, pages_from, start_state, turn_by, with_table}
use Rattle.mt_reader.specs.Dollars.{begins_display, between_dollars}
use Rattle.mt_reader.specs.Limits.{max_total_tokens}
use Rattle.mt_reader.proofs.CutPages.{continues}
use Rattle.mt_reader.proofs.Falling.{TurnSettles, turn_settles}
use Rattle.mt_reader.proofs.Fronts.{Front, FrontOf, IsApart, Next, definition_front, delcode_front, math_code_front}

-- a state with the codes and macros of another one
abbrev with_tables : DocumentState → DocumentState → DocumentState
with_tables t s = record t { tables = s.tables; macros = s.macros }

-- ---- turns of definitions

record TurnFront (units : Units) (s mid : DocumentState) (rest left : List Token) (role : OutsideRole) : Type 0 where
  front : List Token
  is : rest ≡ front ++ left
  again : (t : DocumentState) (more : List Token) → Next left more → turn_by units (with_tables t s) (front ++ more) role ≡ Goes (with_tables t mid) more

defined_is : (s : DocumentState) (n : ℕ) (d : MacroDefinition) (l : List Token) (r : ReadOr OutsideCause MacroDefinition) (a : IsAnswered r) → r ≡ Got d l → after_definition s n r a ≡ with_table s n l (define s.macros d.name d.params d.body)
defined_is s n d l (Got e left) a is =
    let same : e ≡ d = cc in
    let rest : left ≡ l = cc in
    ap (λ (x : MacroDefinition). with_table s n left (define s.macros x.name x.params x.body)) same ∙ ap (λ (x : List Token). with_table s n x (define s.macros d.name d.params d.body)) rest
defined_is s n d l (Fault cause at) a is = absurd (cc)
defined_is s n d l NoTurn a is = elim a [ ]

module _ (units : Units) where
  table_front : (s mid : DocumentState) (n : ℕ) (ts left rest : List Token) (d : MacroDefinition) (made : Result Table MacroError) → define s.macros d.name d.params d.body ≡ made → Front macro_definition ts rest d
      → with_table s n rest made ≡ Goes mid left → TurnFront units s mid ts left Defines
  table_front s mid n ts left rest d (Err error) is f e = absurd (cc)
  table_front s mid n ts left rest d (Ok macros) is f e =
      let after : record s { macros = macros } ≡ mid = cc in
      let same : rest ≡ left = cc in
      record {
        front = f.front;
        is = f.is ∙ ap (λ (l : List Token). f.front ++ l) same;
        again = λ t more next.
            let all = f.front ++ more in
            let n : ℕ = length all + 1 in
            let next' : Next rest more = subst (λ (l : List Token). Next l more) (sym same) next in
            defined_is (with_tables t s) n d more (macro_definition all) (definition_answered all) (f.again more next')
            ∙ (ap (with_table (with_tables t s) n more) is ∙ ap (λ (m : DocumentState). Goes (with_tables t m) more) after);
      }

  definition_turn : (s mid : DocumentState) (n : ℕ) (ts left : List Token) (r : ReadOr OutsideCause MacroDefinition) (a : IsAnswered r) → FrontOf macro_definition ts r → after_definition s n r a ≡ Goes mid left → TurnFront units s mid ts left Defines
  definition_turn s mid n ts left (Got d rest) a f e = table_front s mid n ts left rest d (define s.macros d.name d.params d.body) refl f e
  definition_turn s mid n ts left (Fault cause at) a f e = absurd (cc)
  definition_turn s mid n ts left NoTurn a f e = elim a [ ]

  assignment_turn : (role : OutsideRole) (read : List Token → Read CodeTables) (answered : (l : List Token) → IsAnswered (read l)) (s mid : DocumentState) (n : ℕ) (ts left : List Token) (r : Read CodeTables) (a : IsAnswered r) → FrontOf read ts r
      → ((t : DocumentState) (all : List Token) → turn_by units (with_tables t s) all role ≡ after_assignment (with_tables t s) (length all + 1) (read all) (answered all))
      → after_assignment s n r a ≡ Goes mid left → TurnFront units s mid ts left role
  assignment_turn role read answered s mid n ts left (Got tables rest) a f turn e =
      let after : record s { tables = tables } ≡ mid = cc in
      let same : rest ≡ left = cc in
      record {
        front = f.front;
        is = f.is ∙ ap (λ (l : List Token). f.front ++ l) same;
        again = λ t more next.
            let all = f.front ++ more in
            let next' : Next rest more = subst (λ (l : List Token). Next l more) (sym same) next in
            turn t all
            ∙ (again_is (with_tables t s) (length all + 1) tables more (read all) (answered all) (f.again more next') ∙ ap (λ (m : DocumentState). Goes (with_tables t m) more) after);
      } where
        again_is : (s : DocumentState) (n : ℕ) (tables : CodeTables) (l : List Token) (r : Read CodeTables) (a : IsAnswered r) → r ≡ Got tables l → after_assignment s n r a ≡ Goes (record s { tables = tables }) l
        again_is s n tables l (Got t left) a e =
            let same : t ≡ tables = cc in
            let rest : left ≡ l = cc in
            ap (λ (x : CodeTables). Goes (record s { tables = x }) left) same ∙ ap (λ (x : List Token). Goes (record s { tables = tables }) x) rest
        again_is s n tables l (Fault cause at) a e = absurd (cc)
        again_is s n tables l NoTurn a e = elim a [ ]
  assignment_turn role read answered s mid n ts left (Fault cause at) a f turn e = absurd (cc)
  assignment_turn role read answered s mid n ts left NoTurn a f turn e = elim a [ ]

  -- ---- turns that define nothing

  Keeps : DocumentState → DocumentTurn → Type 0
  Keeps s (Goes mid left) = (t : DocumentState) → with_tables t mid ≡ with_tables t s
  Keeps s (Ends mid) = ⊤
  Keeps s (Stops refusal) = ⊤
  Keeps s (StopsOutside n cause left) = ⊤

  reading_keeps : (s : DocumentState) (display : Bool) (total : ℕ) (rest : List Token) (r : Reading) → Keeps s (after_reading units s display total rest r)
  unfolding Keeps
  reading_keeps s display total rest (ReadFault cause place) = tt
  reading_keeps s display total rest (Reads body tag) = λ t. refl

  counted_keeps : (s : DocumentState) (display : Bool) (rest list : List Token) (b : Bool)
      → Keeps s (elim b [ true ↦ Stops (TooManyTokens (s.count + 1) (s.total + length list)) | false ↦ after_reading units s display (s.total + length list) rest (reading s.tables units display list) ])
  unfolding Keeps
  counted_keeps s display rest list true = tt
  counted_keeps s display rest list false = reading_keeps s display (s.total + length list) rest (reading s.tables units display list)

  expansion_keeps : (s : DocumentState) (display : Bool) (rest : List Token) (o : Expansion) → Keeps s (after_expansion units s display rest o)
  unfolding Keeps
  expansion_keeps s display rest (Expanded list) = counted_keeps s display rest list (nat_lt max_total_tokens (s.total + length list))
  expansion_keeps s display rest (OverBudget steps k) = tt
  expansion_keeps s display rest (NoArgument place) = tt
  expansion_keeps s display rest (NoPartner place) = tt
  expansion_keeps s display rest ListTooLong = tt

  formula_in_keeps : (s : DocumentState) (display : Bool) (left : ℕ) (o : Option Taken) → Keeps s (formula_in units s display left o)
  unfolding Keeps
  formula_in_keeps s display left None = tt
  formula_in_keeps s display left (Some taken) = expansion_keeps s display taken.after (expansion s.macros taken.argument)

  formula_keeps : (s : DocumentState) (rest : List Token) (b : Bool) → Keeps s (formula_turn units s rest b)
  unfolding Keeps
  formula_keeps s rest true = tt
  formula_keeps s rest false = formula_in_keeps s (begins_display rest) (length rest + 1) (between_dollars rest)

  -- ---- after a turn

  -- the definitions among these tokens are read so
  record DefinitionsRead (s after : DocumentState) (q : List Token) : Type 0 where
    reads : (t : DocumentState) → state_after units (with_tables t s) q ≡ Some (with_tables t after)
    apart : IsApart q

  same_after : (again other : DocumentState → List Token → Option DocumentState) (n : ℕ) (turn : DocumentTurn) → ((s : DocumentState) (ts : List Token) → length ts ≤ n → again s ts ≡ other s ts) → TurnSettles n turn → after_turn again turn ≡ after_turn other turn
  same_after again other n (Goes s rest) h k = h s rest k
  same_after again other n (Ends s) h k = refl
  same_after again other n (Stops refusal) h k = refl
  same_after again other n (StopsOutside m cause left) h k = refl

  enough : (n m : ℕ) (s : DocumentState) (ts : List Token) → length ts ≤ n → length ts ≤ m → after_from units n s ts ≡ after_from units m s ts
  unfolding after_from
  enough zero zero s [] h k = refl
  enough zero (suc m) s [] h k = refl
  enough (suc n) zero s [] h k = refl
  enough (suc n) (suc m) s [] h k = refl
  enough zero m s (t ∷ rest) h k = absurd (omega (arith, h))
  enough (suc n) zero s (t ∷ rest) h k = absurd (omega (arith, k))
  enough (suc n) (suc m) s (t ∷ rest) h k =
      same_after (after_from units n) (after_from units m) (length rest) (turn_by units s rest (outside_role t.kind)) (λ s' ts le. enough n m s' ts (omega (arith, le, h)) (omega (arith, le, k))) (turn_settles units s rest (outside_role t.kind))

  one_turn : (s mid : DocumentState) (x : Token) (front more : List Token) → turn_by units s (front ++ more) (outside_role x.kind) ≡ Goes mid more → state_after units s (x ∷ front ++ more) ≡ state_after units mid more
  unfolding after_from
  one_turn s mid x front more e =
      ap (after_turn (after_from units (length (front ++ more)))) e ∙ enough (length (front ++ more)) (length more) mid more (omega (arith, length-append front more)) (omega arith)

  take_front : (front left : List Token) → take (length (front ++ left) - length left) (front ++ left) ≡ front
  take_front front left = ap (λ (n : ℕ). take n (front ++ left)) (count front left) ∙ taken front left where
    count : (front left : List Token) → length (front ++ left) - length left ≡ length front
    count front left = omega (arith, length-append front left)

    taken : (front left : List Token) → take (length front) (front ++ left) ≡ front
    taken [] left = refl
    taken (t ∷ front) left = ap (λ (l : List Token). t ∷ l) (taken front left)

  -- behind a definition
  defined_then : (s mid after : DocumentState) (x : Token) (rest left q : List Token) → IsWord x.kind → TurnFront units s mid rest left (outside_role x.kind) → DefinitionsRead mid after q → DefinitionsRead s after (take (length (x ∷ rest) - length left) (x ∷ rest) ++ q)
  defined_then s mid after x rest left q word f d =
      let whole : take (length (x ∷ rest) - length left) (x ∷ rest) ≡ x ∷ f.front = ap (λ (l : List Token). take (length (x ∷ l) - length left) (x ∷ l)) f.is ∙ take_front (x ∷ f.front) left in
      subst (λ (l : List Token). DefinitionsRead s after (l ++ q)) (sym whole) (record {
        reads = λ t. one_turn (with_tables t s) (with_tables t mid) x f.front q (f.again t q (inr d.apart)) ∙ d.reads t;
        apart = word;
      })

  -- behind anything else
  kept_then : (s mid after : DocumentState) (q : List Token) → ((t : DocumentState) → with_tables t mid ≡ with_tables t s) → DefinitionsRead mid after q → DefinitionsRead s after q
  kept_then s mid after q same d = record { reads = λ t. ap (λ (m : DocumentState). state_after units m q) (sym (same t)) ∙ d.reads t; apart = d.apart }

-- ---- words that define

no_more : (b : Bool) → b && false ≡ false
no_more true = refl
no_more false = refl

one_letter : (c : ℕ) → outside_name_role (c ∷ []) ≡ Misplaced
one_letter c = simp no_more refl

abbrev DefinesSome : OutsideRole → Type 0
DefinesSome Defines = ⊤
DefinesSome SetsMathCode = ⊤
DefinesSome SetsDelimiterCode = ⊤
DefinesSome Passed = ⊥
DefinesSome BeginsFormula = ⊥
DefinesSome EndsPage = ⊥
DefinesSome EndsDocument = ⊥
DefinesSome Misplaced = ⊥

char_role : (b : Bool) → DefinesSome (if b then BeginsFormula else Misplaced) → ⊥
char_role true d = d
char_role false d = d

defining_word : (k : TokenKind) → DefinesSome (outside_role k) → IsWord k
defining_word (Control []) d = absurd d
defining_word (Control (c ∷ [])) d = absurd (subst DefinesSome (one_letter c) d)
defining_word (Control (c ∷ e ∷ name)) d = tt
defining_word (Char c) d = absurd (char_role (c == 36) d)
defining_word Space d = absurd d

module _ (units : Units) where
  -- what is read behind a turn
  abbrev Rest : DocumentState → ℕ → Type 0
  Rest after n = (mid : DocumentState) (left : List Token) → length left ≤ n → after_from units n mid left ≡ Some after → DefinitionsRead units mid after (definitions_from units n mid left)

  role_then : (n : ℕ) (s after mid : DocumentState) (x : Token) (rest left : List Token) (role : OutsideRole) → outside_role x.kind ≡ role → length rest ≤ n → Rest after n → turn_by units s rest role ≡ Goes mid left → after_from units n mid left ≡ Some after
      → DefinitionsRead units s after (defined_by role (x ∷ rest) (length left) ++ definitions_from units n mid left)
  unfolding Keeps
  role_then n s after mid x rest left role is le h e read = by_role role is e where
    shorter : length left ≤ n
    shorter = let k : TurnSettles (length rest) (Goes mid left) = subst (TurnSettles (length rest)) e (turn_settles units s rest role) in omega (arith, k, le)

    q : List Token
    q = definitions_from units n mid left

    d : DefinitionsRead units mid after q
    d = h mid left shorter read

    word : (role : OutsideRole) → outside_role x.kind ≡ role → DefinesSome role → IsWord x.kind
    word role is some = defining_word x.kind (subst DefinesSome (sym is) some)

    here : (role : OutsideRole) → outside_role x.kind ≡ role → TurnFront units s mid rest left role → TurnFront units s mid rest left (outside_role x.kind)
    here role is f = subst (TurnFront units s mid rest left) (sym is) f

    by_role : (role : OutsideRole) → outside_role x.kind ≡ role → turn_by units s rest role ≡ Goes mid left → DefinitionsRead units s after (defined_by role (x ∷ rest) (length left) ++ q)
    by_role Passed is e = let same : s ≡ mid = cc in kept_then units s mid after q (λ t. ap (with_tables t) (sym same)) d
    by_role Defines is e =
        defined_then units s mid after x rest left q (word Defines is tt) (here Defines is (definition_turn units s mid (length rest + 1) rest left (macro_definition rest) (definition_answered rest) (definition_front rest) e)) d
    by_role SetsMathCode is e =
        defined_then units s mid after x rest left q (word SetsMathCode is tt)
        (here SetsMathCode is (assignment_turn units SetsMathCode (math_code_assignment s.tables) (math_code_answered s.tables) s mid (length rest + 1) rest left (math_code_assignment s.tables rest) (math_code_answered s.tables rest) (math_code_front s.tables rest) (λ t all. refl) e)) d
    by_role SetsDelimiterCode is e =
        defined_then units s mid after x rest left q (word SetsDelimiterCode is tt)
        (here SetsDelimiterCode is (assignment_turn units SetsDelimiterCode (delcode_assignment s.tables) (delcode_answered s.tables) s mid (length rest + 1) rest left (delcode_assignment s.tables rest) (delcode_answered s.tables rest) (delcode_front s.tables rest) (λ t all. refl) e)) d
    by_role BeginsFormula is e = kept_then units s mid after q (subst (Keeps units s) e (formula_keeps units s rest (is_page_limit s))) d
    by_role EndsPage is e = let same : after_page_end s ≡ mid = cc in kept_then units s mid after q (λ t. ap (with_tables t) (sym same)) d
    by_role EndsDocument is e = absurd (cc)
    by_role Misplaced is e = absurd (cc)

  turn_then : (n : ℕ) (s after : DocumentState) (x : Token) (rest : List Token) (turn : DocumentTurn) → length rest ≤ n → Rest after n → turn_by units s rest (outside_role x.kind) ≡ turn → after_turn (after_from units n) turn ≡ Some after
      → DefinitionsRead units s after (defined_turn units (definitions_from units n) (outside_role x.kind) (x ∷ rest) turn)
  turn_then n s after x rest (Goes mid left) le h e read = role_then n s after mid x rest left (outside_role x.kind) refl le h e read
  turn_then n s after x rest (Ends mid) le h e read = absurd (cc)
  turn_then n s after x rest (Stops refusal) le h e read = absurd (cc)
  turn_then n s after x rest (StopsOutside m cause left) le h e read = absurd (cc)

  none_read : (s after : DocumentState) → ◌≡◌ {A = Option DocumentState} (Some s) (Some after) → DefinitionsRead units s after []
  unfolding after_from
  none_read s after e = let same : s ≡ after = cc in record { reads = λ t. ap (λ (m : DocumentState). let o : Option DocumentState = Some (with_tables t m) in o) same; apart = tt }

  definitions_read : (n : ℕ) (s after : DocumentState) (a : List Token) → length a ≤ n → after_from units n s a ≡ Some after → DefinitionsRead units s after (definitions_from units n s a)
  unfolding after_from definitions_from
  definitions_read zero s after a le read = none_read s after read
  definitions_read (suc n) s after [] le read = none_read s after read
  definitions_read (suc n) s after (x ∷ rest) le read =
      turn_then n s after x rest (turn_by units s rest (outside_role x.kind)) (omega (arith, le)) (λ mid left k r. definitions_read n mid after left k r) refl read

  pub same_definitions : (tables : CodeTables) (macros : Table) (after : DocumentState) (a : List Token) → state_after units (start_state tables macros) a ≡ Some after
      → state_after units (start_state tables macros) (definitions_of units (start_state tables macros) a) ≡ Some (start_state after.tables after.macros)
  same_definitions tables macros after a read = (definitions_read (length a) (start_state tables macros) after a (omega arith) read).reads (start_state tables macros)

-- such definitions in front of other tokens
pub definitions_in_front : (units : Units) (whole : ℕ) (tables : CodeTables) (macros : Table) (after : DocumentState) (a b : List Token) (word : Token) → IsWord word.kind → state_after units (start_state tables macros) a ≡ Some after
    → pages_from units whole (length (definitions_of units (start_state tables macros) a ++ word ∷ b)) (start_state tables macros) (definitions_of units (start_state tables macros) a ++ word ∷ b)
    ≡ pages_from units whole (length (word ∷ b)) (start_state after.tables after.macros) (word ∷ b)
definitions_in_front units whole tables macros after a b word is read =
    let q = definitions_of units (start_state tables macros) a in
    continues units whole (length q) (start_state tables macros) (start_state after.tables after.macros) q (word ∷ b) (omega arith) is (same_definitions units tables macros after a read)

one_of : {A : Type 0} (a b : A) → ◌≡◌ {A = Option A} (Some a) (Some b) → a ≡ b
one_of a b e = cc

-- the same definitions leave the same
pub alike_definitions : (units : Units) (tables : CodeTables) (macros : Table) (after other : DocumentState) (a b : List Token) → state_after units (start_state tables macros) a ≡ Some after → state_after units (start_state tables macros) b ≡ Some other
    → definitions_of units (start_state tables macros) a ≡ definitions_of units (start_state tables macros) b → (after.tables ≡ other.tables) × (after.macros ≡ other.macros)
alike_definitions units tables macros after other a b read read' same =
    let e : start_state after.tables after.macros ≡ start_state other.tables other.macros =
    one_of (start_state after.tables after.macros) (start_state other.tables other.macros)
    (sym (same_definitions units tables macros after a read) ∙ (ap (state_after units (start_state tables macros)) same ∙ same_definitions units tables macros other b read')) in
    (ap (λ (s : DocumentState). s.tables) e, ap (λ (s : DocumentState). s.macros) e)
