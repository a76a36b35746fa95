-- A turn of a document takes a token and gives none back: so as many turns as tokens are enough (`turns_enough`, `turn_by_turn`).
use Rattle.std.proofs.Common.{◌≡◌, ℕ, zero, suc, ◌+◌, ◌≤◌, refl, Bool, true, false, List, [], ◌∷◌, length, Option, Some, None, arith}
use Rattle.std.specs.Prelude.{ℤ, pos, negsuc, drop, nat_le, nat_lt, ◌==◌, ◌&&◌, ⊤, Result, Ok, Err}
use Rattle.mt_token.specs.declared.token.Token.{Token}
use Rattle.mt_token.specs.declared.token.TokenKind.{TokenKind}
use Rattle.mt_token.specs.declared.token.TokenKind.TheVariants.{Control, Char, Space}
use Rattle.mt_token.specs.Character.{character_code}
use Rattle.mt_scaled.specs.declared.unit.Units.{Units}
use Rattle.mt_macro.specs.declared.definition.MacroError.{MacroError}
use Rattle.mt_macro.specs.Braces.{Taken, is_open, is_close, level_after, onto, group}
use Rattle.mt_macro.specs.Table.{Table}
use Rattle.mt_macro.specs.Definition.{define}
use Rattle.mt_macro.specs.Parameters.{first_bad_parameter}
use Rattle.mt_macro.specs.Expansion.{Expansion, Expanded, OverBudget, NoArgument, NoPartner, ListTooLong, expansion}
use Rattle.mt_plain.specs.CodeTables.{CodeTables}
use Rattle.mt_scan.specs.declared.fault.ReadCause.TheVariants.{BadNumber}
use Rattle.mt_scan.specs.Numbers.{whole_number, number_to}
use Rattle.mt_scan.specs.Parts.{Read, ReadOr, Got, Fault, NoTurn, after_spaces, IsAnswered}
use Rattle.mt_formula.specs.Formulas.{Reading, Reads, ReadFault, reading}
use Rattle.mt_formula.specs.turns.Arguments.{Fits, onto_fits, fits_if, group_fits}
use Rattle.mt_formula.specs.turns.Settling.{Settles, settles_next, settles_if, settles_more, whole_number_settles, number_to_settles}
use Rattle.mt_reader.specs.declared.outside_cause.OutsideCause.{OutsideCause}
use Rattle.mt_reader.specs.declared.outside_cause.OutsideCause.TheVariants.{BadDefinition}
use Rattle.mt_reader.specs.declared.outside_role.OutsideRole.{OutsideRole}
use Rattle.mt_reader.specs.declared.outside_role.OutsideRole.TheVariants.{Passed, Defines, SetsMathCode, SetsDelimiterCode, BeginsFormula, EndsPage, EndsDocument, Misplaced}
use Rattle.mt_reader.specs.Assignments.{after_equals, assignment, code_or_none, delimiter_value, math_code_assignment, delcode_assignment}
use Rattle.mt_reader.specs.Definitions.{MacroDefinition, after_parameters, is_parameter, parameters, checked_body, definition_body_in, definition_body, definition_by_kind, macro_definition}
use Rattle.mt_reader.specs.Dollars.{begins_display, ends_formula, after_end, up_to_end, between_dollars}
use Rattle.mt_reader.specs.Documents.{DocumentState, DocumentAnswer, TooManyTokens, DocumentTurn, Goes, Ends, Stops, StopsOutside, outside_role, with_table, after_definition, after_assignment, is_page_limit, after_reading, after_expansion, formula_in, formula_turn, turn_by, turn_answer, pages_from}
use Rattle.mt_plain.specs.Limits.{max_delimiter_code, max_math_code}
use Rattle.mt_reader.specs.Limits.{max_total_tokens}
use Rattle.mt_reader.specs.Answered.{definition_answered, math_code_answered, delcode_answered}

-- ---- definitions

after_parameters_settles : (count : ℕ) (ts : List Token) → Settles (length ts) (after_parameters count ts)
after_parameters_settles count [] = tt
after_parameters_settles count (t ∷ rest) = settles_if (length (t ∷ rest)) (is_open t) (Got count (t ∷ rest)) (Fault BadDefinition (length rest + 1)) (omega arith) tt

parameter_settles : (n left : ℕ) (b c : Bool) (more other : ReadOr OutsideCause ℕ) → Settles n more → Settles n other → Settles n (elim b [ true ↦ elim c [ true ↦ more | false ↦ Fault BadDefinition left ] | false ↦ other ])
parameter_settles n left true true more other h k = h
parameter_settles n left true false more other h k = tt
parameter_settles n left false c more other h k = k

parameters_settle : (count : ℕ) (ts : List Token) → Settles (length ts) (parameters count ts)
parameters_settle count [] = tt
parameters_settle count (t ∷ []) = settles_if 1 (is_parameter count t) (Fault BadDefinition 0) (after_parameters count (t ∷ [])) tt (after_parameters_settles count (t ∷ []))
parameters_settle count (t ∷ u ∷ rest) =
    parameter_settles (length (t ∷ u ∷ rest)) (length rest + 1) (is_parameter count t) (character_code u.kind == 49 + count) (parameters (count + 1) rest) (after_parameters count (t ∷ u ∷ rest))
    (settles_more (length rest) (length (t ∷ u ∷ rest)) (parameters (count + 1) rest) (omega arith) (parameters_settle (count + 1) rest))
    (after_parameters_settles count (t ∷ u ∷ rest))

checked_settles : (name : List ℕ) (params left n : ℕ) (taken : Taken) (bad : Option ℕ) → length taken.after ≤ n → Settles n (checked_body name params left taken bad)
checked_settles name params left n taken None le = le
checked_settles name params left n taken (Some place) le = tt

body_in_settles : (name : List ℕ) (params left n : ℕ) (o : Option Taken) → Fits n o → Settles n (definition_body_in name params left o)
body_in_settles name params left n None f = tt
body_in_settles name params left n (Some taken) f = checked_settles name params left n taken (first_bad_parameter params taken.argument) (omega (arith, f))

body_settles : (name : List ℕ) (params : ℕ) (ts : List Token) → Settles (length ts) (definition_body name params ts)
body_settles name params [] = tt
body_settles name params (t ∷ rest) = settles_more (length rest) (length (t ∷ rest)) (definition_body name params (t ∷ rest)) (omega arith) (body_in_settles name params (length rest) (length rest) (group 0 rest) (group_fits 0 rest))

of_kind_settles : (kind : TokenKind) (rest : List Token) → Settles (length rest) (definition_by_kind kind rest)
of_kind_settles (Control name) rest = settles_next (length rest) (length rest) (parameters 0 rest) (definition_body name) (parameters_settle 0 rest) (λ count after le. settles_more (length after) (length rest) (definition_body name count after) le (body_settles name count after))
of_kind_settles (Char c) rest = tt
of_kind_settles Space rest = tt

definition_settles : (ts : List Token) → Settles (length ts) (macro_definition ts)
definition_settles [] = tt
definition_settles (t ∷ rest) = settles_more (length rest) (length (t ∷ rest)) (macro_definition (t ∷ rest)) (omega arith) (of_kind_settles t.kind rest)

-- ---- assignments

spaces_fall : (ts : List Token) → length (after_spaces ts) ≤ length ts
spaces_fall [] = omega arith
spaces_fall (t ∷ rest) = grind (arith, spaces_fall rest)

equals_fall : (ts : List Token) → length (after_equals ts) ≤ length ts
equals_fall [] = omega arith
equals_fall (t ∷ rest) = grind (arith, spaces_fall rest)

code_settles : (first : ℕ) (n : ℤ) (rest : List Token) → Settles (length rest) (code_or_none first n rest)
code_settles first (pos n) rest = settles_if (length rest) (nat_le n max_delimiter_code) (Got (Some n) rest) (Fault BadNumber first) (omega arith) tt
code_settles first (negsuc n) rest = omega arith

delimiter_settles : (ts : List Token) → Settles (length ts) (delimiter_value ts)
delimiter_settles ts = settles_next (length ts) (length ts) (whole_number ts) (code_or_none (length ts)) (whole_number_settles ts) (λ n rest le. settles_more (length rest) (length ts) (code_or_none (length ts) n rest) le (code_settles (length ts) n rest))

assignment_settles : {A : Type 0} (code : List Token → Read A) (change : ℕ → A → CodeTables) → ((ts : List Token) → Settles (length ts) (code ts)) → (ts : List Token) → Settles (length ts) (assignment code change ts)
assignment_settles code change h ts =
    settles_next (length ts) (length ts) (number_to 127 ts) _ (number_to_settles 127 ts)
    (λ c after le. settles_next (length (after_equals (after_spaces after))) (length ts) (code (after_equals (after_spaces after))) _ (h (after_equals (after_spaces after)))
    (λ value rest s. omega (arith, s, le, equals_fall (after_spaces after), spaces_fall after)))

-- ---- formulas

-- the dollar at the end is taken, two of a display
end_falls : (display : Bool) (rest : List Token) → length (after_end display rest) ≤ length rest
end_falls true [] = omega arith
end_falls true (t ∷ rest) = omega arith
end_falls false rest = omega arith

token_fits : (display : Bool) (t : Token) (rest : List Token) (inner : Option Taken) (b c : Bool) → Fits (length rest) inner → Fits (suc (length rest)) (elim b [ true ↦ None | false ↦ elim c [ true ↦ Some (record { argument = []; after = after_end display rest }) | false ↦ onto t inner ] ])
token_fits display t rest inner true c f = tt
token_fits display t rest inner false true f = omega (arith, end_falls display rest)
token_fits display t rest inner false false f = onto_fits t (length rest) inner f

up_to_end_fits : (display : Bool) (level : ℕ) (ts : List Token) → Fits (length ts) (up_to_end display level ts)
up_to_end_fits display level [] = tt
up_to_end_fits display level (t ∷ rest) =
    token_fits display t rest (up_to_end display (level_after level t) rest) ((level == 0) && is_close t) ((level == 0) && ends_formula display t rest) (up_to_end_fits display (level_after level t) rest)

fits_more : (n k : ℕ) (o : Option Taken) → n ≤ k → Fits n o → Fits k o
fits_more n k None le f = tt
fits_more n k (Some taken) le f = omega (arith, le, f)

dropped : (ts : List Token) → length (drop 1 ts) ≤ length ts
dropped [] = omega arith
dropped (t ∷ rest) = omega arith

between_fits : (rest : List Token) → Fits (length rest) (between_dollars rest)
between_fits rest =
    fits_if (begins_display rest) (length rest) (up_to_end true 0 (drop 1 rest)) (up_to_end false 0 rest)
    (fits_more (length (drop 1 rest)) (length rest) (up_to_end true 0 (drop 1 rest)) (dropped rest) (up_to_end_fits true 0 (drop 1 rest))) (up_to_end_fits false 0 rest)

-- ---- turns

-- a turn that goes on with at most so many tokens, and does not end for lack of turns
abbrev pub TurnSettles : ℕ → DocumentTurn → Type 0
TurnSettles n (Goes s rest) = length rest ≤ n
TurnSettles n (Ends s) = ⊤
TurnSettles n (Stops refusal) = ⊤
TurnSettles n (StopsOutside m cause left) = ⊤

table_settles : (s : DocumentState) (left : ℕ) (rest : List Token) (n : ℕ) (made : Result Table MacroError) → length rest ≤ n → TurnSettles n (with_table s left rest made)
table_settles s left rest n (Ok macros) le = le
table_settles s left rest n (Err e) le = tt

after_definition_settles : (s : DocumentState) (left n : ℕ) (d : ReadOr OutsideCause MacroDefinition) (a : IsAnswered d) → Settles n d → TurnSettles n (after_definition s left d a)
after_definition_settles s left n (Fault cause at) a h = tt
after_definition_settles s left n NoTurn a h = elim a [ ]
after_definition_settles s left n (Got d rest) a h = table_settles s left rest n (define s.macros d.name d.params d.body) h

after_assignment_settles : (s : DocumentState) (left n : ℕ) (r : Read CodeTables) (a : IsAnswered r) → Settles n r → TurnSettles n (after_assignment s left r a)
after_assignment_settles s left n (Fault cause at) a h = tt
after_assignment_settles s left n NoTurn a h = elim a [ ]
after_assignment_settles s left n (Got tables rest) a h = h

module _ (units : Units) where
  reading_settles : (s : DocumentState) (display : Bool) (total : ℕ) (rest : List Token) (n : ℕ) (r : Reading) → length rest ≤ n → TurnSettles n (after_reading units s display total rest r)
  reading_settles s display total rest n (ReadFault cause place) le = tt
  reading_settles s display total rest n (Reads body tag) le = le

  expansion_settles : (s : DocumentState) (display : Bool) (rest : List Token) (n : ℕ) (o : Expansion) → length rest ≤ n → TurnSettles n (after_expansion units s display rest o)
  expansion_settles s display rest n (Expanded list) le = by_total (nat_lt max_total_tokens (s.total + length list))
    where
      by_total : (b : Bool) → TurnSettles n (elim b [ true ↦ Stops (TooManyTokens (s.count + 1) (s.total + length list)) | false ↦ after_reading units s display (s.total + length list) rest (reading s.tables units display list) ])
      by_total true = tt
      by_total false = reading_settles s display (s.total + length list) rest n (reading s.tables units display list) le
  expansion_settles s display rest n (OverBudget steps count) le = tt
  expansion_settles s display rest n (NoArgument place) le = tt
  expansion_settles s display rest n (NoPartner place) le = tt
  expansion_settles s display rest n ListTooLong le = tt

  formula_in_settles : (s : DocumentState) (display : Bool) (left n : ℕ) (o : Option Taken) → Fits n o → TurnSettles n (formula_in units s display left o)
  formula_in_settles s display left n None f = tt
  formula_in_settles s display left n (Some taken) f = expansion_settles s display taken.after n (expansion s.macros taken.argument) (omega (arith, f))

  formula_settles : (s : DocumentState) (rest : List Token) (b : Bool) → TurnSettles (length rest) (formula_turn units s rest b)
  formula_settles s rest true = tt
  formula_settles s rest false = formula_in_settles s (begins_display rest) (length rest + 1) (length rest) (between_dollars rest) (between_fits rest)

  pub turn_settles : (s : DocumentState) (rest : List Token) (role : OutsideRole) → TurnSettles (length rest) (turn_by units s rest role)
  turn_settles s rest Passed = omega arith
  turn_settles s rest Defines = after_definition_settles s (length rest + 1) (length rest) (macro_definition rest) (definition_answered rest) (definition_settles rest)
  turn_settles s rest SetsMathCode = after_assignment_settles s (length rest + 1) (length rest) (math_code_assignment s.tables rest) (math_code_answered s.tables rest) (assignment_settles (number_to max_math_code) _ (number_to_settles max_math_code) rest)
  turn_settles s rest SetsDelimiterCode = after_assignment_settles s (length rest + 1) (length rest) (delcode_assignment s.tables rest) (delcode_answered s.tables rest) (assignment_settles delimiter_value _ delimiter_settles rest)
  turn_settles s rest BeginsFormula = formula_settles s rest (is_page_limit s)
  turn_settles s rest EndsPage = omega arith
  turn_settles s rest EndsDocument = tt
  turn_settles s rest Misplaced = tt

  module _ (whole : ℕ) where
    -- ---- as many turns as tokens are enough
    same_answer : (again other : DocumentState → List Token → DocumentAnswer) (n : ℕ) (turn : DocumentTurn) → ((s : DocumentState) (ts : List Token) → length ts ≤ n → again s ts ≡ other s ts) → TurnSettles n turn → turn_answer units whole again turn ≡ turn_answer units whole other turn
    same_answer again other n (Goes s rest) h k = h s rest k
    same_answer again other n (Ends s) h k = refl
    same_answer again other n (Stops refusal) h k = refl
    same_answer again other n (StopsOutside m cause left) h k = refl

    same_pages : (n m : ℕ) (s : DocumentState) (ts : List Token) → length ts ≤ n → length ts ≤ m → pages_from units whole n s ts ≡ pages_from units whole m s ts
    unfolding pages_from
    same_pages zero zero s [] h k = refl
    same_pages zero (suc m) s [] h k = refl
    same_pages (suc n) zero s [] h k = refl
    same_pages (suc n) (suc m) s [] h k = refl
    same_pages zero m s (t ∷ rest) h k = absurd (omega (arith, h))
    same_pages (suc n) zero s (t ∷ rest) h k = absurd (omega (arith, k))
    same_pages (suc n) (suc m) s (t ∷ rest) h k =
        same_answer (pages_from units whole n) (pages_from units whole m) (length rest) (turn_by units s rest (outside_role t.kind))
        (λ s' ts le. same_pages n m s' ts (omega (arith, le, h)) (omega (arith, le, k))) (turn_settles s rest (outside_role t.kind))

    pub turns_enough : (turns : ℕ) (s : DocumentState) (ts : List Token) → length ts ≤ turns → pages_from units whole turns s ts ≡ pages_from units whole (length ts) s ts
    turns_enough turns s ts le = same_pages turns (length ts) s ts le (omega arith)

    -- a token is read, and then those that its turn leaves, whatever is counted
    pub turn_by_turn : (s : DocumentState) (t : Token) (rest : List Token)
        → pages_from units whole (length (t ∷ rest)) s (t ∷ rest) ≡ turn_answer units whole (λ (after : DocumentState) (left : List Token). pages_from units whole (length left) after left) (turn_by units s rest (outside_role t.kind))
    unfolding pages_from
    turn_by_turn s t rest =
        same_answer (pages_from units whole (length rest)) (λ (after : DocumentState) (left : List Token). pages_from units whole (length left) after left) (length rest) (turn_by units s rest (outside_role t.kind))
        (λ after left le. turns_enough (length rest) after left le) (turn_settles s rest (outside_role t.kind))
