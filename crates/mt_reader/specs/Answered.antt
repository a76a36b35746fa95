-- What follows \def, \mathcode and \delcode is read or at fault: it counts no turns.
use Rattle.std.specs.Prelude.{ℕ, ◌+◌, ℤ, pos, negsuc, nat_le, ◌==◌, Bool, true, false, List, [], ◌∷◌, length, Option, Some, None}
use Rattle.mt_token.specs.declared.token.Token.{Token}
use Rattle.mt_token.specs.declared.token.TokenKind.{TokenKind}
use Rattle.mt_token.specs.declared.token.TokenKind.TheVariants.{Control, Char, Space}
use Rattle.mt_token.specs.Character.{character_code}
use Rattle.mt_macro.specs.Braces.{Taken, is_open, group}
use Rattle.mt_macro.specs.Parameters.{first_bad_parameter}
use Rattle.mt_plain.specs.CodeTables.{CodeTables}
use Rattle.mt_plain.specs.Limits.{max_delimiter_code, max_math_code}
use Rattle.mt_scan.specs.declared.fault.ReadCause.TheVariants.{BadNumber}
use Rattle.mt_scan.specs.Numbers.{whole_number, number_to}
use Rattle.mt_scan.specs.Parts.{Read, ReadOr, Got, Fault, after_spaces, IsAnswered}
use Rattle.mt_scan.specs.turns.Answering.{answered_next, answered_if, whole_number_answered, number_to_answered}
use Rattle.mt_reader.specs.declared.outside_cause.OutsideCause.{OutsideCause}
use Rattle.mt_reader.specs.declared.outside_cause.OutsideCause.TheVariants.{BadDefinition}
use Rattle.mt_reader.specs.Assignments.{after_equals, assignment, code_or_none, delimiter_value, math_code_assignment, delcode_assignment}
use Rattle.mt_reader.specs.Definitions.{after_parameters, is_parameter, parameters, checked_body, definition_body_in, definition_body, definition_by_kind, macro_definition}

after_parameters_answered : (count : ℕ) (ts : List Token) → IsAnswered (after_parameters count ts)
after_parameters_answered count [] = tt
after_parameters_answered count (t ∷ rest) = answered_if (is_open t) (Got count (t ∷ rest)) (Fault BadDefinition (length rest + 1)) tt tt

parameter_answered : (left : ℕ) (b c : Bool) (more other : ReadOr OutsideCause ℕ) → IsAnswered more → IsAnswered other → IsAnswered (elim b [ true ↦ elim c [ true ↦ more | false ↦ Fault BadDefinition left ] | false ↦ other ])
parameter_answered left true true more other h k = h
parameter_answered left true false more other h k = tt
parameter_answered left false c more other h k = k

parameters_answered : (count : ℕ) (ts : List Token) → IsAnswered (parameters count ts)
parameters_answered count [] = tt
parameters_answered count (t ∷ []) = answered_if (is_parameter count t) (Fault BadDefinition 0) (after_parameters count (t ∷ [])) tt (after_parameters_answered count (t ∷ []))
parameters_answered count (t ∷ u ∷ rest) =
    parameter_answered (length rest + 1) (is_parameter count t) (character_code u.kind == 49 + count) (parameters (count + 1) rest) (after_parameters count (t ∷ u ∷ rest)) (parameters_answered (count + 1) rest) (after_parameters_answered count (t ∷ u ∷ rest))

checked_answered : (name : List ℕ) (params left : ℕ) (taken : Taken) (bad : Option ℕ) → IsAnswered (checked_body name params left taken bad)
checked_answered name params left taken None = tt
checked_answered name params left taken (Some place) = tt

body_in_answered : (name : List ℕ) (params left : ℕ) (o : Option Taken) → IsAnswered (definition_body_in name params left o)
body_in_answered name params left None = tt
body_in_answered name params left (Some taken) = checked_answered name params left taken (first_bad_parameter params taken.argument)

body_answered : (name : List ℕ) (params : ℕ) (ts : List Token) → IsAnswered (definition_body name params ts)
body_answered name params [] = tt
body_answered name params (t ∷ rest) = body_in_answered name params (length rest) (group 0 rest)

of_kind_answered : (kind : TokenKind) (rest : List Token) → IsAnswered (definition_by_kind kind rest)
of_kind_answered (Control name) rest = answered_next (parameters 0 rest) (definition_body name) (parameters_answered 0 rest) (body_answered name)
of_kind_answered (Char c) rest = tt
of_kind_answered Space rest = tt

pub definition_answered : (ts : List Token) → IsAnswered (macro_definition ts)
definition_answered [] = tt
definition_answered (t ∷ rest) = of_kind_answered t.kind rest

code_answered : (first : ℕ) (n : ℤ) (rest : List Token) → IsAnswered (code_or_none first n rest)
code_answered first (pos n) rest = answered_if (nat_le n max_delimiter_code) (Got (Some n) rest) (Fault BadNumber first) tt tt
code_answered first (negsuc n) rest = tt

delimiter_answered : (ts : List Token) → IsAnswered (delimiter_value ts)
delimiter_answered ts = answered_next (whole_number ts) (code_or_none (length ts)) (whole_number_answered ts) (code_answered (length ts))

assignment_answered : {A : Type 0} (code : List Token → Read A) (change : ℕ → A → CodeTables) → ((ts : List Token) → IsAnswered (code ts)) → (ts : List Token) → IsAnswered (assignment code change ts)
assignment_answered code change h ts =
    answered_next (number_to 127 ts) _ (number_to_answered 127 ts)
    (λ c after. answered_next (code (after_equals (after_spaces after))) _ (h (after_equals (after_spaces after))) (λ value rest. tt))

pub math_code_answered : (tables : CodeTables) (ts : List Token) → IsAnswered (math_code_assignment tables ts)
math_code_answered tables ts = assignment_answered (number_to max_math_code) _ (number_to_answered max_math_code) ts

pub delcode_answered : (tables : CodeTables) (ts : List Token) → IsAnswered (delcode_assignment tables ts)
delcode_answered tables ts = assignment_answered delimiter_value _ delimiter_answered ts
