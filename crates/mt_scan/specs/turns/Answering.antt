-- Numbers, dimensions and delimiters count no turns: they are read or at fault (`IsAnswered`).
use Rattle.std.proofs.Common.{ℕ, ◌+◌, Bool, true, false, List, [], ◌∷◌, length, Option, Some, None}
use Rattle.std.specs.Prelude.{ℤ, pos, negsuc, nat_le, nat_lt, ◌==◌, ◌&&◌, if◌then◌else◌, codes}
use Rattle.mt_token.specs.declared.token.Token.{Token}
use Rattle.mt_token.specs.Character.{character_code}
use Rattle.mt_scaled.specs.declared.unit.Unit.{Unit as Measure}
use Rattle.mt_scaled.specs.declared.unit.Units.{Units}
use Rattle.mt_plain.specs.CodeTables.{CodeTables}
use Rattle.mt_scan.specs.Limits.{max_number, max_groups, max_delimiter}
use Rattle.mt_scaled.specs.Number.{max_dimen}
use Rattle.mt_scan.specs.declared.fault.ReadCause.TheVariants.{MissingField, BadNumber, BadDimension, TooDeep}
use Rattle.mt_scan.specs.declared.decimals.Decimal.{Decimal}
use Rattle.mt_scan.specs.declared.role.Role.{Role}
use Rattle.mt_scan.specs.declared.role.Role.TheVariants.{DelimiterWord}
use Rattle.mt_scan.specs.Role.{role_of}
use Rattle.mt_scan.specs.Parts.{ReadOr, Got, Fault, NoTurn, IsAnswered, then_read, after_spaces, after_one_space, after_blanks, opening}
use Rattle.mt_scan.specs.Numbers.{signs, digit_of, with_sign, digits, digits_in, first_digit, quoted_code, quoted_value, quoted_kind, unsigned_number, in_bound, whole_number, at_most, number_to, delimiter_number}
use Rattle.mt_scan.specs.Dimensions.{measures, measure_of, begins_measure, letter, second_letter, after_first_letter, measure, decimals, with_decimals, is_point, after_whole, factor, length_of, is_dimension, dimension_in_range, dimension_of, dimension_from, dimension, after_letters, amount_after, amount, glue}
use Rattle.mt_scan.specs.Delimiters.{code_of_kind, delimiter_by_code, delimiter_at, delimiter_here, scan_delimiter}

pub answered_next : {C A B : Type 0} (r : ReadOr C A) (f : A → List Token → ReadOr C B) → IsAnswered r → ((part : A) (rest : List Token) → IsAnswered (f part rest)) → IsAnswered (then_read r f)
answered_next (Got part rest) f a h = h part rest
answered_next (Fault cause left) f a h = tt
answered_next NoTurn f a h = elim a [ ]

pub answered_if : {C A : Type 0} (test : Bool) (x y : ReadOr C A) → IsAnswered x → IsAnswered y → IsAnswered (if test then x else y)
answered_if true x y hx hy = hx
answered_if false x y hx hy = hy

-- numbers
first_digit_answered : (d : Option ℕ) (base : ℕ) (ts rest : List Token) → IsAnswered (first_digit d base ts rest)
first_digit_answered None base ts rest = tt
first_digit_answered (Some digit) base ts rest = tt

digits_in_answered : (base : ℕ) (ts : List Token) → IsAnswered (digits_in base ts)
digits_in_answered base [] = tt
digits_in_answered base (t ∷ rest) = first_digit_answered (digit_of base t) base (t ∷ rest) rest

quoted_value_answered : (c : Option ℕ) (rest : List Token) → IsAnswered (quoted_value c rest)
quoted_value_answered None rest = tt
quoted_value_answered (Some c) rest = tt

quoted_answered : (ts : List Token) → IsAnswered (quoted_code ts)
quoted_answered [] = tt
quoted_answered (t ∷ rest) = quoted_value_answered (quoted_kind t.kind) rest

unsigned_answered : (ts : List Token) → IsAnswered (unsigned_number ts)
unsigned_answered [] = tt
unsigned_answered (t ∷ rest) =
    answered_if (character_code t.kind == 34) (digits_in 16 rest) (if character_code t.kind == 39 then digits_in 8 rest else if character_code t.kind == 96 then quoted_code rest else digits_in 10 (t ∷ rest)) (digits_in_answered 16 rest)
    (answered_if (character_code t.kind == 39) (digits_in 8 rest) (if character_code t.kind == 96 then quoted_code rest else digits_in 10 (t ∷ rest)) (digits_in_answered 8 rest)
    (answered_if (character_code t.kind == 96) (quoted_code rest) (digits_in 10 (t ∷ rest)) (quoted_answered rest) (digits_in_answered 10 (t ∷ rest))))

in_bound_answered : (first : ℕ) (minus : Bool) (value : ℕ) (rest : List Token) → IsAnswered (in_bound first minus value rest)
in_bound_answered first minus value rest = answered_if (nat_le value max_number) (Got (with_sign minus (pos value)) (after_one_space rest)) (Fault BadNumber first) tt tt

pub whole_number_answered : (ts : List Token) → IsAnswered (whole_number ts)
whole_number_answered ts =
    answered_next (unsigned_number (signs false ts).rest) (λ (value : ℕ) (rest : List Token). in_bound (length ts) (signs false ts).minus value rest) (unsigned_answered (signs false ts).rest)
    (λ value rest. in_bound_answered (length ts) (signs false ts).minus value rest)

at_most_answered : (most first : ℕ) (n : ℤ) (rest : List Token) → IsAnswered (at_most most first n rest)
at_most_answered most first (pos n) rest = answered_if (nat_le n most) (Got n rest) (Fault BadNumber first) tt tt
at_most_answered most first (negsuc n) rest = tt

pub number_to_answered : (most : ℕ) (ts : List Token) → IsAnswered (number_to most ts)
number_to_answered most ts =
    answered_next (whole_number ts) (λ (n : ℤ) (rest : List Token). at_most most (length ts) n rest) (whole_number_answered ts)
    (λ n rest. at_most_answered most (length ts) n rest)

-- dimensions
second_letter_answered : (m : Option Measure) (rest : List Token) → IsAnswered (second_letter m rest)
second_letter_answered None rest = tt
second_letter_answered (Some m) rest = tt

first_letter_answered : (mu : Bool) (a : ℕ) (ts : List Token) → IsAnswered (after_first_letter mu a ts)
first_letter_answered mu a [] = tt
first_letter_answered mu a (t ∷ rest) = second_letter_answered (measure_of (measures mu) a (letter t)) rest

measure_answered : (mu : Bool) (ts : List Token) → IsAnswered (measure mu ts)
measure_answered mu [] = tt
measure_answered mu (t ∷ rest) = answered_if (begins_measure (measures mu) (letter t)) (after_first_letter mu (letter t) rest) (Fault BadDimension (length rest + 1)) (first_letter_answered mu (letter t) rest) tt

whole_answered : (some : Bool) (whole : ℕ) (ts : List Token) → IsAnswered (after_whole some whole ts)
whole_answered some whole [] = answered_if some (Got (record { whole = whole; part = 0 }) []) (Fault BadDimension 0) tt tt
whole_answered some whole (t ∷ rest) =
    answered_if (is_point (character_code t.kind)) (with_decimals whole (decimals rest)) (if some then Got (record { whole = whole; part = 0 }) (t ∷ rest) else Fault BadDimension (length rest + 1)) tt
    (answered_if some (Got (record { whole = whole; part = 0 }) (t ∷ rest)) (Fault BadDimension (length rest + 1)) tt tt)

factor_answered : (ts : List Token) → IsAnswered (factor ts)
factor_answered ts = whole_answered (nat_lt (length (digits 10 0 ts).rest) (length ts)) (digits 10 0 ts).value (digits 10 0 ts).rest

module _ (units : Units) where
  in_range_answered : (negative : Bool) (first whole : ℕ) (value : ℤ) (rest : List Token) → IsAnswered (dimension_in_range negative first whole value rest)
  in_range_answered negative first whole value rest = answered_if (nat_le whole max_dimen && is_dimension negative value) (Got value rest) (Fault BadDimension first) tt tt

  pub dimension_answered : (mu negative : Bool) (ts : List Token) → IsAnswered (dimension_from units mu negative ts)
  dimension_answered mu negative ts =
      answered_next (factor (signs false ts).rest)
      (λ (f : Decimal) (after : List Token). then_read (measure mu (after_spaces after)) (dimension_of units negative (length ts) (signs false ts).minus f))
      (factor_answered (signs false ts).rest)
      (λ f after. answered_next (measure mu (after_spaces after)) (dimension_of units negative (length ts) (signs false ts).minus f) (measure_answered mu (after_spaces after))
      (λ m rest. in_range_answered negative (length ts) f.whole (with_sign (signs false ts).minus (length_of units m f)) rest))

  amount_after_answered : (found : Option (List Token)) (mu : Bool) (ts : List Token) → IsAnswered (amount_after units found mu ts)
  amount_after_answered None mu ts = tt
  amount_after_answered (Some rest) mu ts = dimension_answered mu false rest

  amount_answered : (word : List ℕ) (mu : Bool) (ts : List Token) → IsAnswered (amount units word mu ts)
  amount_answered word mu ts = amount_after_answered (after_letters word (after_spaces ts)) mu ts

  pub glue_answered : (mu : Bool) (ts : List Token) → IsAnswered (glue units mu ts)
  glue_answered mu ts =
      answered_next (dimension units mu ts) _ (dimension_answered mu true ts)
      (λ width after. answered_next (amount units (codes "plus") mu after) _ (amount_answered (codes "plus") mu after)
      (λ stretch later. answered_next (amount units (codes "minus") mu later) _ (amount_answered (codes "minus") mu later) (λ shrink rest. tt)))

-- delimiters
pub by_code_answered : (code : Option ℕ) (rest : List Token) → IsAnswered (delimiter_by_code code rest)
by_code_answered None rest = tt
by_code_answered (Some code) rest = tt

module _ (tables : CodeTables) where
  delimiter_at_answered : (t : Token) (rest : List Token) (role : Role) → IsAnswered (delimiter_at tables t rest role)
  delimiter_at_answered t rest DelimiterWord = answered_next (delimiter_number rest) _ (number_to_answered max_delimiter rest) (λ code after. tt)
  delimiter_at_answered t rest _ = by_code_answered (code_of_kind tables t.kind) rest

  delimiter_here_answered : (ts : List Token) → IsAnswered (delimiter_here tables ts)
  delimiter_here_answered [] = tt
  delimiter_here_answered (t ∷ rest) = delimiter_at_answered t rest (role_of tables t)

  pub delimiter_answered : (ts : List Token) → IsAnswered (scan_delimiter tables ts)
  delimiter_answered ts = delimiter_here_answered (after_blanks tables ts)

  pub opening_answered : (opens : Role → Bool) (level : ℕ) (ts : List Token) → IsAnswered (opening tables opens level ts)
  opening_answered opens level [] = tt
  opening_answered opens level (t ∷ rest) =
      answered_if (opens (role_of tables t)) (if nat_lt level max_groups then Got tt rest else Fault TooDeep (length rest + 1)) (Fault MissingField (length rest + 1))
      (answered_if (nat_lt level max_groups) (Got tt rest) (Fault TooDeep (length rest + 1)) tt tt) tt
