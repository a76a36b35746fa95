-- What a turn of a document leaves are the last ones of its tokens (`turn_ends`).
use Rattle.std.proofs.Common.{◌≡◌, ℕ, ◌+◌, ◌-◌, Bool, true, false, List, [], ◌∷◌, ◌++◌, length, drop, cond, Option, Some, None, refl, sym, ap, subst, ◌∙◌, arith, append_assoc}
use Rattle.std.specs.Prelude.{ℤ, pos, negsuc, nat_le, nat_lt, ◌==◌, ◌&&◌, ⊤, Result, Ok, Err}
use Rattle.std.proofs.lemmas.List.{length-append}
use Rattle.mt_token.specs.declared.token.Token.{Token}
use Rattle.mt_token.specs.declared.token.TokenKind.{TokenKind}
use Rattle.mt_token.specs.declared.token.TokenKind.TheVariants.{Control, Char, Space}
use Rattle.mt_token.specs.Character.{character_code}
use Rattle.mt_token.specs.Spaces.{is_space}
use Rattle.mt_scaled.specs.declared.unit.Units.{Units}
use Rattle.mt_macro.specs.declared.definition.MacroError.{MacroError}
use Rattle.mt_macro.specs.Braces.{Taken, is_open, is_close, level_after, onto, group}
use Rattle.mt_macro.specs.Table.{Table}
use Rattle.mt_macro.specs.Definition.{define}
use Rattle.mt_macro.specs.Parameters.{first_bad_parameter}
use Rattle.mt_macro.specs.Expansion.{Expansion, Expanded, OverBudget, NoArgument, NoPartner, ListTooLong, expansion}
use Rattle.mt_plain.specs.CodeTables.{CodeTables}
use Rattle.mt_plain.specs.Limits.{max_delimiter_code, max_math_code}
use Rattle.mt_scan.specs.declared.fault.ReadCause.TheVariants.{BadNumber}
use Rattle.mt_scan.specs.Limits.{max_number}
use Rattle.mt_scan.specs.Numbers.{Signs, Whole, at_digit, at_most, at_sign, digit_of, digits, digits_in, first_digit, in_bound, number_to, quoted_code, quoted_kind, quoted_value, sign_after, signs, turns_sign, unsigned_number, unsigned_number_by, whole_number, with_sign}
use Rattle.mt_scan.specs.Parts.{Read, ReadOr, Got, Fault, NoTurn, IsAnswered, after_one_space, after_spaces, then_read}
use Rattle.mt_formula.specs.Formulas.{Reading, Reads, ReadFault, reading}
use Rattle.mt_reader.specs.declared.outside_cause.OutsideCause.{OutsideCause}
use Rattle.mt_reader.specs.declared.outside_cause.OutsideCause.TheVariants.{BadDefinition}
use Rattle.mt_reader.specs.declared.outside_role.OutsideRole.{OutsideRole}
use Rattle.mt_reader.specs.declared.outside_role.OutsideRole.TheVariants.{Passed, Defines, SetsMathCode, SetsDelimiterCode, BeginsFormula, EndsPage, EndsDocument, Misplaced}
use Rattle.mt_reader.specs.Answered.{definition_answered, math_code_answered, delcode_answered}
use Rattle.mt_reader.specs.Assignments.{after_equals, assignment, code_or_none, delimiter_value, math_code_assignment, delcode_assignment}
use Rattle.mt_reader.specs.Definitions.{MacroDefinition, after_parameters, is_parameter, parameters, checked_body, definition_body_in, definition_body, definition_by_kind, macro_definition}
use Rattle.mt_reader.specs.Dollars.{begins_display, ends_formula, after_end, up_to_end, between_dollars}
use Rattle.mt_reader.specs.Documents.{DocumentState, TooManyTokens, DocumentTurn, Goes, Ends, Stops, StopsOutside, with_table, after_definition, after_assignment, is_page_limit, after_reading, after_expansion, formula_in, formula_turn, turn_by}
use Rattle.mt_reader.specs.Limits.{max_total_tokens}
use Rattle.mt_reader.specs.CountedTurns.{last_tokens}

-- these are the last ones of those
abbrev IsEnd : List Token → List Token → Type 0
IsEnd rest all = (front : List Token) × (all ≡ front ++ rest)

end_all : (all : List Token) → IsEnd all all
end_all all = ([], refl)

end_more : (t : Token) (rest all : List Token) → IsEnd rest all → IsEnd rest (t ∷ all)
end_more t rest all e = (t ∷ e.0, ap (λ (l : List Token). t ∷ l) e.1)

end_then : (last rest all : List Token) → IsEnd last rest → IsEnd rest all → IsEnd last all
end_then last rest all e f = (f.0 ++ e.0, f.1 ∙ (ap (λ (l : List Token). f.0 ++ l) e.1 ∙ sym (append_assoc f.0 e.0 last)))

-- what is read ends so
abbrev EndsIn : {C A : Type 0} → List Token → ReadOr C A → Type 0
EndsIn all (Got part rest) = IsEnd rest all
EndsIn all (Fault cause left) = ⊤
EndsIn all NoTurn = ⊤

ends_more : {C A : Type 0} (rest all : List Token) (r : ReadOr C A) → IsEnd rest all → EndsIn rest r → EndsIn all r
ends_more rest all (Got part last) e h = end_then last rest all h e
ends_more rest all (Fault cause left) e h = tt
ends_more rest all NoTurn e h = tt

ends_next : {C A B : Type 0} (all : List Token) (r : ReadOr C A) (f : A → List Token → ReadOr C B) → EndsIn all r → ((part : A) (rest : List Token) → EndsIn rest (f part rest)) → EndsIn all (then_read r f)
ends_next all (Got part rest) f e h = ends_more rest all (f part rest) e (h part rest)
ends_next all (Fault cause left) f e h = tt
ends_next all NoTurn f e h = tt

ends_if : {C A : Type 0} (all : List Token) (b : Bool) (x y : ReadOr C A) → EndsIn all x → EndsIn all y → EndsIn all (cond b x y)
ends_if all true x y h k = h
ends_if all false x y h k = k

-- what is taken ends so
abbrev TakenIn : List Token → Option Taken → Type 0
TakenIn all None = ⊤
TakenIn all (Some taken) = IsEnd taken.after all

taken_onto : (t : Token) (all : List Token) (o : Option Taken) → TakenIn all o → TakenIn (t ∷ all) (onto t o)
taken_onto t all None h = tt
taken_onto t all (Some taken) h = end_more t taken.after all h

taken_more : (t : Token) (all : List Token) (o : Option Taken) → TakenIn all o → TakenIn (t ∷ all) o
taken_more t all None h = tt
taken_more t all (Some taken) h = end_more t taken.after all h

-- ---- definitions

closed_ends : (t : Token) (rest : List Token) (b : Bool) (o : Option Taken) → TakenIn rest o → TakenIn (t ∷ rest) (cond b (Some (record { argument = []; after = rest })) (onto t o))
closed_ends t rest true o h = end_more t rest rest (end_all rest)
closed_ends t rest false o h = taken_onto t rest o h

group_ends : (level : ℕ) (ts : List Token) → TakenIn ts (group level ts)
group_ends level [] = tt
group_ends level (t ∷ rest) = closed_ends t rest ((level == 0) && is_close t) (group (level_after level t) rest) (group_ends (level_after level t) rest)

after_parameters_end : (count : ℕ) (ts : List Token) → EndsIn ts (after_parameters count ts)
after_parameters_end count [] = tt
after_parameters_end count (t ∷ rest) = ends_if (t ∷ rest) (is_open t) (Got count (t ∷ rest)) (Fault BadDefinition (length rest + 1)) (end_all (t ∷ rest)) tt

parameter_ends : (all : List Token) (left : ℕ) (b c : Bool) (more other : ReadOr OutsideCause ℕ) → EndsIn all more → EndsIn all other → EndsIn all (elim b [ true ↦ elim c [ true ↦ more | false ↦ Fault BadDefinition left ] | false ↦ other ])
parameter_ends all left true true more other h k = h
parameter_ends all left true false more other h k = tt
parameter_ends all left false c more other h k = k

parameters_end : (count : ℕ) (ts : List Token) → EndsIn ts (parameters count ts)
parameters_end count [] = tt
parameters_end count (t ∷ []) = ends_if (t ∷ []) (is_parameter count t) (Fault BadDefinition 0) (after_parameters count (t ∷ [])) tt (after_parameters_end count (t ∷ []))
parameters_end count (t ∷ u ∷ rest) =
    parameter_ends (t ∷ u ∷ rest) (length rest + 1) (is_parameter count t) (character_code u.kind == 49 + count) (parameters (count + 1) rest) (after_parameters count (t ∷ u ∷ rest))
    (ends_more rest (t ∷ u ∷ rest) (parameters (count + 1) rest) (end_more t rest (u ∷ rest) (end_more u rest rest (end_all rest))) (parameters_end (count + 1) rest))
    (after_parameters_end count (t ∷ u ∷ rest))

checked_ends : (all : List Token) (name : List ℕ) (params left : ℕ) (taken : Taken) (bad : Option ℕ) → IsEnd taken.after all → EndsIn all (checked_body name params left taken bad)
checked_ends all name params left taken None e = e
checked_ends all name params left taken (Some place) e = tt

body_in_ends : (all : List Token) (name : List ℕ) (params left : ℕ) (o : Option Taken) → TakenIn all o → EndsIn all (definition_body_in name params left o)
body_in_ends all name params left None e = tt
body_in_ends all name params left (Some taken) e = checked_ends all name params left taken (first_bad_parameter params taken.argument) e

body_ends : (name : List ℕ) (params : ℕ) (ts : List Token) → EndsIn ts (definition_body name params ts)
body_ends name params [] = tt
body_ends name params (t ∷ rest) = body_in_ends (t ∷ rest) name params (length rest) (group 0 rest) (taken_more t rest (group 0 rest) (group_ends 0 rest))

kind_ends : (kind : TokenKind) (rest : List Token) → EndsIn rest (definition_by_kind kind rest)
kind_ends (Control name) rest = ends_next rest (parameters 0 rest) (definition_body name) (parameters_end 0 rest) (λ params after. body_ends name params after)
kind_ends (Char c) rest = tt
kind_ends Space rest = tt

definition_ends : (ts : List Token) → EndsIn ts (macro_definition ts)
definition_ends [] = tt
definition_ends (t ∷ rest) = ends_more rest (t ∷ rest) (macro_definition (t ∷ rest)) (end_more t rest rest (end_all rest)) (kind_ends t.kind rest)

-- ---- assignments

passed_end : (t : Token) (rest last : List Token) (b : Bool) → IsEnd last rest → IsEnd (cond b last (t ∷ rest)) (t ∷ rest)
passed_end t rest last true e = end_more t last rest e
passed_end t rest last false e = end_all (t ∷ rest)

blank_end : (t : Token) (rest last : List Token) (b : Bool) → IsEnd last rest → IsEnd (elim b [ true ↦ last | false ↦ t ∷ rest ]) (t ∷ rest)
blank_end t rest last true e = end_more t last rest e
blank_end t rest last false e = end_all (t ∷ rest)

spaces_end : (ts : List Token) → IsEnd (after_spaces ts) ts
spaces_end [] = end_all []
spaces_end (t ∷ rest) = blank_end t rest (after_spaces rest) (is_space t) (spaces_end rest)

space_end : (ts : List Token) → IsEnd (after_one_space ts) ts
space_end [] = end_all []
space_end (t ∷ rest) = passed_end t rest rest (is_space t) (end_all rest)

equals_end : (ts : List Token) → IsEnd (after_equals ts) ts
equals_end [] = end_all []
equals_end (t ∷ rest) = passed_end t rest (after_spaces rest) (character_code t.kind == 61) (spaces_end rest)

sign_ends : (turn : Option Bool) (minus : Bool) (t : Token) (rest : List Token) (further : Bool → Signs) → ((m : Bool) → IsEnd (further m).rest rest) → IsEnd (at_sign turn minus (t ∷ rest) further).rest (t ∷ rest)
sign_ends None minus t rest further h = end_all (t ∷ rest)
sign_ends (Some turn) minus t rest further h = end_more t (further (sign_after turn minus)).rest rest (h (sign_after turn minus))

signs_end : (minus : Bool) (ts : List Token) → IsEnd (signs minus ts).rest ts
signs_end minus [] = end_all []
signs_end minus (t ∷ rest) = sign_ends (turns_sign t.kind) minus t rest (λ (m : Bool). signs m rest) (λ m. signs_end m rest)

digit_ends : (digit : Option ℕ) (base value : ℕ) (t : Token) (rest : List Token) (further : ℕ → Whole) → ((v : ℕ) → IsEnd (further v).rest rest) → IsEnd (at_digit digit base value (t ∷ rest) further).rest (t ∷ rest)
digit_ends None base value t rest further h = end_all (t ∷ rest)
digit_ends (Some digit) base value t rest further h = end_more t _ rest (h _)

digits_end : (base value : ℕ) (ts : List Token) → IsEnd (digits base value ts).rest ts
digits_end base value [] = end_all []
digits_end base value (t ∷ rest) = digit_ends (digit_of base t) base value t rest (λ (v : ℕ). digits base v rest) (λ v. digits_end base v rest)

first_digit_ends : (digit : Option ℕ) (base : ℕ) (t : Token) (rest : List Token) → EndsIn (t ∷ rest) (first_digit digit base (t ∷ rest) rest)
first_digit_ends None base t rest = tt
first_digit_ends (Some digit) base t rest = end_more t (digits base digit rest).rest rest (digits_end base digit rest)

digits_in_end : (base : ℕ) (ts : List Token) → EndsIn ts (digits_in base ts)
digits_in_end base [] = tt
digits_in_end base (t ∷ rest) = first_digit_ends (digit_of base t) base t rest

quoted_value_ends : (c : Option ℕ) (t : Token) (rest : List Token) → EndsIn (t ∷ rest) (quoted_value c rest)
quoted_value_ends None t rest = tt
quoted_value_ends (Some c) t rest = end_more t rest rest (end_all rest)

quoted_ends : (ts : List Token) → EndsIn ts (quoted_code ts)
quoted_ends [] = tt
quoted_ends (t ∷ rest) = quoted_value_ends (quoted_kind t.kind) t rest

unsigned_ends : (ts : List Token) → EndsIn ts (unsigned_number ts)
unsigned_ends [] = tt
unsigned_ends (t ∷ rest) =
    let c = character_code t.kind in
    let tail : IsEnd rest (t ∷ rest) = end_more t rest rest (end_all rest) in
    ends_if (t ∷ rest) (c == 34) (digits_in 16 rest) _ (ends_more rest (t ∷ rest) (digits_in 16 rest) tail (digits_in_end 16 rest))
    (ends_if (t ∷ rest) (c == 39) (digits_in 8 rest) _ (ends_more rest (t ∷ rest) (digits_in 8 rest) tail (digits_in_end 8 rest))
    (ends_if (t ∷ rest) (c == 96) (quoted_code rest) (digits_in 10 (t ∷ rest)) (ends_more rest (t ∷ rest) (quoted_code rest) tail (quoted_ends rest)) (digits_in_end 10 (t ∷ rest))))

bound_ends : (first : ℕ) (minus : Bool) (value : ℕ) (rest : List Token) → EndsIn rest (in_bound first minus value rest)
bound_ends first minus value rest = ends_if rest (nat_le value max_number) (Got (with_sign minus (pos value)) (after_one_space rest)) (Fault BadNumber first) (space_end rest) tt

whole_ends : (ts : List Token) → EndsIn ts (whole_number ts)
whole_ends ts =
    ends_next ts (unsigned_number (signs false ts).rest) (λ (value : ℕ) (rest : List Token). in_bound (length ts) (signs false ts).minus value rest)
    (ends_more (signs false ts).rest ts (unsigned_number (signs false ts).rest) (signs_end false ts) (unsigned_ends (signs false ts).rest))
    (λ value rest. bound_ends (length ts) (signs false ts).minus value rest)

at_most_ends : (most first : ℕ) (n : ℤ) (rest : List Token) → EndsIn rest (at_most most first n rest)
at_most_ends most first (pos n) rest = ends_if rest (nat_le n most) (Got n rest) (Fault BadNumber first) (end_all rest) tt
at_most_ends most first (negsuc n) rest = tt

number_ends : (most : ℕ) (ts : List Token) → EndsIn ts (number_to most ts)
number_ends most ts = ends_next ts (whole_number ts) (λ (n : ℤ) (rest : List Token). at_most most (length ts) n rest) (whole_ends ts) (λ n rest. at_most_ends most (length ts) n rest)

code_ends : (first : ℕ) (n : ℤ) (rest : List Token) → EndsIn rest (code_or_none first n rest)
code_ends first (pos n) rest = ends_if rest (nat_le n max_delimiter_code) (Got (Some n) rest) (Fault BadNumber first) (end_all rest) tt
code_ends first (negsuc n) rest = end_all rest

delimiter_ends : (ts : List Token) → EndsIn ts (delimiter_value ts)
delimiter_ends ts = ends_next ts (whole_number ts) (code_or_none (length ts)) (whole_ends ts) (λ n rest. code_ends (length ts) n rest)

assignment_ends : {A : Type 0} (code : List Token → Read A) (change : ℕ → A → CodeTables) → ((ts : List Token) → EndsIn ts (code ts)) → (ts : List Token) → EndsIn ts (assignment code change ts)
assignment_ends code change h ts =
    ends_next ts (number_to 127 ts) _ (number_ends 127 ts)
    (λ c after.
    let value = after_equals (after_spaces after) in
    ends_more value after (then_read (code value) (λ value rest. Got (change c value) rest)) (end_then value (after_spaces after) after (equals_end (after_spaces after)) (spaces_end after))
    (ends_next value (code value) _ (h value) (λ value rest. end_all rest)))

-- ---- formulas

end_ends : (display : Bool) (rest : List Token) → IsEnd (after_end display rest) rest
end_ends true [] = end_all []
end_ends true (t ∷ rest) = end_more t rest rest (end_all rest)
end_ends false rest = end_all rest

token_ends : (display : Bool) (t : Token) (rest : List Token) (inner : Option Taken) (b c : Bool) → TakenIn rest inner → TakenIn (t ∷ rest) (elim b [ true ↦ None | false ↦ elim c [ true ↦ Some (record { argument = []; after = after_end display rest }) | false ↦ onto t inner ] ])
token_ends display t rest inner true c h = tt
token_ends display t rest inner false true h = end_more t (after_end display rest) rest (end_ends display rest)
token_ends display t rest inner false false h = taken_onto t rest inner h

up_to_end_ends : (display : Bool) (level : ℕ) (ts : List Token) → TakenIn ts (up_to_end display level ts)
up_to_end_ends display level [] = tt
up_to_end_ends display level (t ∷ rest) =
    token_ends display t rest (up_to_end display (level_after level t) rest) ((level == 0) && is_close t) ((level == 0) && ends_formula display t rest) (up_to_end_ends display (level_after level t) rest)

dollars_end : (b : Bool) (t : Token) (rest : List Token) → TakenIn (t ∷ rest) (cond b (up_to_end true 0 rest) (up_to_end false 0 (t ∷ rest)))
dollars_end true t rest = taken_more t rest (up_to_end true 0 rest) (up_to_end_ends true 0 rest)
dollars_end false t rest = up_to_end_ends false 0 (t ∷ rest)

between_ends : (ts : List Token) → TakenIn ts (between_dollars ts)
between_ends [] = tt
between_ends (t ∷ rest) = dollars_end (begins_display (t ∷ rest)) t rest

-- ---- turns

-- a turn that goes on
abbrev TurnIn : List Token → DocumentTurn → Type 0
TurnIn all (Goes s rest) = IsEnd rest all
TurnIn all (Ends s) = ⊤
TurnIn all (Stops refusal) = ⊤
TurnIn all (StopsOutside n cause left) = ⊤

table_ends : (all : List Token) (s : DocumentState) (left : ℕ) (rest : List Token) (made : Result Table MacroError) → IsEnd rest all → TurnIn all (with_table s left rest made)
table_ends all s left rest (Ok macros) e = e
table_ends all s left rest (Err error) e = tt

after_definition_ends : (all : List Token) (s : DocumentState) (left : ℕ) (d : ReadOr OutsideCause MacroDefinition) (a : IsAnswered d) → EndsIn all d → TurnIn all (after_definition s left d a)
after_definition_ends all s left (Fault cause at) a h = tt
after_definition_ends all s left NoTurn a h = elim a [ ]
after_definition_ends all s left (Got d rest) a h = table_ends all s left rest (define s.macros d.name d.params d.body) h

after_assignment_ends : (all : List Token) (s : DocumentState) (left : ℕ) (r : Read CodeTables) (a : IsAnswered r) → EndsIn all r → TurnIn all (after_assignment s left r a)
after_assignment_ends all s left (Fault cause at) a h = tt
after_assignment_ends all s left NoTurn a h = elim a [ ]
after_assignment_ends all s left (Got tables rest) a h = h

module _ (units : Units) (all : List Token) where
  reading_ends : (s : DocumentState) (display : Bool) (total : ℕ) (rest : List Token) (r : Reading) → IsEnd rest all → TurnIn all (after_reading units s display total rest r)
  reading_ends s display total rest (ReadFault cause place) e = tt
  reading_ends s display total rest (Reads body tag) e = e

  counted_ends : (s : DocumentState) (display : Bool) (rest list : List Token) (b : Bool) → IsEnd rest all
      → TurnIn all (elim b [ true ↦ Stops (TooManyTokens (s.count + 1) (s.total + length list)) | false ↦ after_reading units s display (s.total + length list) rest (reading s.tables units display list) ])
  counted_ends s display rest list true e = tt
  counted_ends s display rest list false e = reading_ends s display (s.total + length list) rest (reading s.tables units display list) e

  expansion_ends : (s : DocumentState) (display : Bool) (rest : List Token) (o : Expansion) → IsEnd rest all → TurnIn all (after_expansion units s display rest o)
  expansion_ends s display rest (Expanded list) e = counted_ends s display rest list (nat_lt max_total_tokens (s.total + length list)) e
  expansion_ends s display rest (OverBudget steps n) e = tt
  expansion_ends s display rest (NoArgument place) e = tt
  expansion_ends s display rest (NoPartner place) e = tt
  expansion_ends s display rest ListTooLong e = tt

  formula_in_ends : (s : DocumentState) (display : Bool) (left : ℕ) (o : Option Taken) → TakenIn all o → TurnIn all (formula_in units s display left o)
  formula_in_ends s display left None h = tt
  formula_in_ends s display left (Some taken) h = expansion_ends s display taken.after (expansion s.macros taken.argument) h

  formula_ends : (s : DocumentState) (b : Bool) → TurnIn all (formula_turn units s all b)
  formula_ends s true = tt
  formula_ends s false = formula_in_ends s (begins_display all) (length all + 1) (between_dollars all) (between_ends all)

  turn_in : (s : DocumentState) (role : OutsideRole) → TurnIn all (turn_by units s all role)
  turn_in s Passed = end_all all
  turn_in s Defines = after_definition_ends all s (length all + 1) (macro_definition all) (definition_answered all) (definition_ends all)
  turn_in s SetsMathCode = after_assignment_ends all s (length all + 1) (math_code_assignment s.tables all) (math_code_answered s.tables all) (assignment_ends (number_to max_math_code) _ (number_ends max_math_code) all)
  turn_in s SetsDelimiterCode = after_assignment_ends all s (length all + 1) (delcode_assignment s.tables all) (delcode_answered s.tables all) (assignment_ends delimiter_value _ delimiter_ends all)
  turn_in s BeginsFormula = formula_ends s (is_page_limit s)
  turn_in s EndsPage = end_all all
  turn_in s EndsDocument = tt
  turn_in s Misplaced = tt

drop_front : (front rest : List Token) → drop (length front) (front ++ rest) ≡ rest
drop_front [] rest = refl
drop_front (t ∷ front) rest = drop_front front rest

last_of : (rest all : List Token) → IsEnd rest all → rest ≡ last_tokens (length rest) all
last_of rest all e =
    let count : length all - length rest ≡ length e.0 = omega (arith, ap length e.1, length-append e.0 rest) in
    sym (ap (λ (n : ℕ). drop n all) count ∙ (ap (drop (length e.0)) e.1 ∙ drop_front e.0 rest))

-- what a turn leaves
pub turn_ends : (units : Units) (s after : DocumentState) (all rest : List Token) (role : OutsideRole) → turn_by units s all role ≡ Goes after rest → rest ≡ last_tokens (length rest) all
turn_ends units s after all rest role e = last_of rest all (subst (TurnIn all) e (turn_in units all s role))
