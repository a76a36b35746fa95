-- Parts take tokens, and never give any back.
use Rattle.std.proofs.Common.{◌≡◌, ℕ, suc, ◌+◌, ◌*◌, ◌≤◌, refl, Bool, true, false, List, [], ◌∷◌, length, Option, Some, None, arith}
use Rattle.std.specs.Prelude.{ℤ, pos, negsuc, drop, nat_le, nat_lt, ◌==◌, ⊤, if◌then◌else◌, codes}
use Rattle.mt_token.specs.declared.token.Token.{Token}
use Rattle.mt_token.specs.Character.{character_code}
use Rattle.mt_scaled.specs.declared.unit.Unit.{Unit as Measure}
use Rattle.mt_scaled.specs.declared.unit.Units.{Units}
use Rattle.mt_plain.specs.CodeTables.{CodeTables}
use Rattle.mt_scan.specs.Limits.{max_number, max_groups, max_delimiter}
use Rattle.mt_scan.specs.declared.fault.ReadCause.TheVariants.{MissingField, BadNumber, BadDimension, TooDeep}
use Rattle.mt_scan.specs.declared.role.Role.{Role}
use Rattle.mt_scan.specs.declared.role.Role.TheVariants.{DelimiterWord}
use Rattle.mt_scan.specs.Role.{role_of}
use Rattle.mt_scan.specs.Parts.{Read, Got, Fault, NoTurn, then_read, after_spaces, after_one_space, after_blanks, opening}
use Rattle.mt_scan.specs.Numbers.{Signs, signs, at_sign, turns_sign, sign_after, with_sign, Whole, digits, at_digit, digit_of, digits_in, first_digit, quoted_code, quoted_value, quoted_kind, unsigned_number, in_bound, whole_number, at_most, number_to, delimiter_number}
use Rattle.mt_scan.specs.declared.decimals.Decimal.{Decimal}
use Rattle.mt_scan.specs.Dimensions.{measures, measure_of, begins_measure, letter, second_letter, after_first_letter, measure, Digits, at_decimal, before_digits, decimals, with_decimals, is_point, after_whole, factor, length_of, dimension_in_range, dimension_of, dimension_from, dimension, after_letters, amount_after, amount, glue}
use Rattle.mt_scan.specs.Delimiters.{code_of_kind, delimiter_by_code, delimiter_at, delimiter_here, scan_delimiter}
use Rattle.mt_scan.specs.Symbols.{delim_of}

-- a part with some items of its own leaves so few tokens that four for each token of a budget are enough
abbrev pub Within : {A : Type 0} → (A → ℕ) → ℕ → Read A → Type 0
Within items budget (Got part rest) = items part + 4 * length rest ≤ budget
Within items budget (Fault cause left) = ⊤
Within items budget NoTurn = ⊤

pub within_next : {A B : Type 0} (m : A → ℕ) (k : B → ℕ) (b c : ℕ) (r : Read A) (f : A → List Token → Read B) → Within m b r → ((part : A) (rest : List Token) → m part + 4 * length rest ≤ b → Within k c (f part rest)) → Within k c (then_read r f)
within_next m k b c (Got part rest) f w h = h part rest w
within_next m k b c (Fault cause left) f w h = tt
within_next m k b c NoTurn f w h = tt

pub within_if : {A : Type 0} (m : A → ℕ) (b : ℕ) (test : Bool) (x y : Read A) → Within m b x → Within m b y → Within m b (if test then x else y)
within_if m b true x y hx hy = hx
within_if m b false x y hx hy = hy

-- no items
abbrev pub none : {A : Type 0} → A → ℕ
none part = 0

abbrev pub Shortens : {A : Type 0} → List Token → Read A → Type 0
Shortens tokens r = Within none (4 * length tokens) r

pub spaces_short : (ts : List Token) → length (after_spaces ts) ≤ length ts
spaces_short [] = omega arith
spaces_short (t ∷ rest) = grind (arith, spaces_short rest)

pub one_space_short : (ts : List Token) → length (after_one_space ts) ≤ length ts
one_space_short [] = omega arith
one_space_short (t ∷ rest) = grind arith

pub blanks_short : (tables : CodeTables) (ts : List Token) → length (after_blanks tables ts) ≤ length ts
blanks_short tables [] = omega arith
blanks_short tables (t ∷ rest) = grind (arith, blanks_short tables rest)

pub drop_short : (ts : List Token) → length (drop 1 ts) ≤ length ts
drop_short [] = omega arith
drop_short (t ∷ rest) = omega arith

-- numbers
pub at_sign_short : (s : Option Bool) (minus : Bool) (ts : List Token) (f : Bool → Signs) (n : ℕ) → length ts ≤ n → ((m : Bool) → length (f m).rest ≤ n) → length (at_sign s minus ts f).rest ≤ n
at_sign_short None minus ts f n h k = h
at_sign_short (Some turn) minus ts f n h k = k (sign_after turn minus)

pub signs_short : (minus : Bool) (ts : List Token) → length (signs minus ts).rest ≤ length ts
signs_short minus [] = omega arith
signs_short minus (t ∷ rest) = at_sign_short (turns_sign t.kind) minus (t ∷ rest) (λ (m : Bool). signs m rest) (suc (length rest)) (omega arith) (λ m. omega (arith, signs_short m rest))

pub at_digit_short : (d : Option ℕ) (base value : ℕ) (ts : List Token) (f : ℕ → Whole) (n : ℕ) → length ts ≤ n → ((v : ℕ) → length (f v).rest ≤ n) → length (at_digit d base value ts f).rest ≤ n
at_digit_short None base value ts f n h k = h
at_digit_short (Some digit) base value ts f n h k = k (value * base + digit)

pub digits_short : (base value : ℕ) (ts : List Token) → length (digits base value ts).rest ≤ length ts
digits_short base value [] = omega arith
digits_short base value (t ∷ rest) = at_digit_short (digit_of base t) base value (t ∷ rest) (λ (v : ℕ). digits base v rest) (suc (length rest)) (omega arith) (λ v. omega (arith, digits_short base v rest))

pub first_digit_short : (d : Option ℕ) (base : ℕ) (ts rest : List Token) (b : ℕ) → 4 * length rest ≤ b → Within none b (first_digit d base ts rest)
first_digit_short None base ts rest b h = tt
first_digit_short (Some digit) base ts rest b h = omega (arith, digits_short base digit rest, h)

pub digits_in_short : (base : ℕ) (ts : List Token) → Shortens ts (digits_in base ts)
digits_in_short base [] = tt
digits_in_short base (t ∷ rest) = first_digit_short (digit_of base t) base (t ∷ rest) rest (4 * length (t ∷ rest)) (omega arith)

pub quoted_value_short : (c : Option ℕ) (rest : List Token) (b : ℕ) → 4 * length rest ≤ b → Within none b (quoted_value c rest)
quoted_value_short None rest b h = tt
quoted_value_short (Some c) rest b h = omega (arith, h)

pub quoted_short : (ts : List Token) → Shortens ts (quoted_code ts)
quoted_short [] = tt
quoted_short (t ∷ rest) = quoted_value_short (quoted_kind t.kind) rest (4 * length (t ∷ rest)) (omega arith)

-- a greater budget
pub within_more : {A : Type 0} (m : A → ℕ) (b c : ℕ) (r : Read A) → b ≤ c → Within m b r → Within m c r
within_more m b c (Got part rest) h w = omega (arith, h, w)
within_more m b c (Fault cause left) h w = tt
within_more m b c NoTurn h w = tt

pub unsigned_short : (ts : List Token) → Shortens ts (unsigned_number ts)
unsigned_short [] = tt
unsigned_short (t ∷ rest) =
    within_if none (4 * length (t ∷ rest)) (character_code t.kind == 34) (digits_in 16 rest) (if character_code t.kind == 39 then digits_in 8 rest else if character_code t.kind == 96 then quoted_code rest else digits_in 10 (t ∷ rest))
    (within_more none (4 * length rest) (4 * length (t ∷ rest)) (digits_in 16 rest) (omega arith) (digits_in_short 16 rest))
    (within_if none (4 * length (t ∷ rest)) (character_code t.kind == 39) (digits_in 8 rest) (if character_code t.kind == 96 then quoted_code rest else digits_in 10 (t ∷ rest))
    (within_more none (4 * length rest) (4 * length (t ∷ rest)) (digits_in 8 rest) (omega arith) (digits_in_short 8 rest))
    (within_if none (4 * length (t ∷ rest)) (character_code t.kind == 96) (quoted_code rest) (digits_in 10 (t ∷ rest))
    (within_more none (4 * length rest) (4 * length (t ∷ rest)) (quoted_code rest) (omega arith) (quoted_short rest))
    (digits_in_short 10 (t ∷ rest))))

pub in_bound_short : (first : ℕ) (minus : Bool) (value : ℕ) (rest : List Token) (b : ℕ) → 4 * length rest ≤ b → Within none b (in_bound first minus value rest)
in_bound_short first minus value rest b h = within_if none b (nat_le value max_number) (Got (with_sign minus (pos value)) (after_one_space rest)) (Fault BadNumber first) (omega (arith, one_space_short rest, h)) tt

pub whole_number_short : (ts : List Token) → Shortens ts (whole_number ts)
whole_number_short ts =
    within_next none none (4 * length (signs false ts).rest) (4 * length ts) (unsigned_number (signs false ts).rest) (λ (value : ℕ) (rest : List Token). in_bound (length ts) (signs false ts).minus value rest) (unsigned_short (signs false ts).rest)
    (λ value rest w. in_bound_short (length ts) (signs false ts).minus value rest (4 * length ts) (omega (arith, w, signs_short false ts)))

pub at_most_short : (most first : ℕ) (n : ℤ) (rest : List Token) (b : ℕ) → 4 * length rest ≤ b → Within none b (at_most most first n rest)
at_most_short most first (pos n) rest b h = within_if none b (nat_le n most) (Got n rest) (Fault BadNumber first) (omega (arith, h)) tt
at_most_short most first (negsuc n) rest b h = tt

pub number_to_short : (most : ℕ) (ts : List Token) → Shortens ts (number_to most ts)
number_to_short most ts =
    within_next none none (4 * length ts) (4 * length ts) (whole_number ts) (λ (n : ℤ) (rest : List Token). at_most most (length ts) n rest) (whole_number_short ts)
    (λ n rest w. at_most_short most (length ts) n rest (4 * length ts) (omega (arith, w)))

-- dimensions
pub second_letter_short : (m : Option Measure) (rest : List Token) (b : ℕ) → 4 * length rest ≤ b → Within none b (second_letter m rest)
second_letter_short None rest b h = tt
second_letter_short (Some m) rest b h = omega (arith, one_space_short rest, h)

pub first_letter_short : (mu : Bool) (a : ℕ) (ts : List Token) → Shortens ts (after_first_letter mu a ts)
first_letter_short mu a [] = tt
first_letter_short mu a (t ∷ rest) = second_letter_short (measure_of (measures mu) a (letter t)) rest (4 * length (t ∷ rest)) (omega arith)

pub measure_short : (mu : Bool) (ts : List Token) → Shortens ts (measure mu ts)
measure_short mu [] = tt
measure_short mu (t ∷ rest) = within_if none (4 * length (t ∷ rest)) (begins_measure (measures mu) (letter t)) (after_first_letter mu (letter t) rest) (Fault BadDimension (length rest + 1)) (within_more none (4 * length rest) (4 * length (t ∷ rest)) (after_first_letter mu (letter t) rest) (omega arith) (first_letter_short mu (letter t) rest)) tt

pub at_decimal_short : (d : Option ℕ) (ts : List Token) (f : ℕ → Digits) (n : ℕ) → length ts ≤ n → ((v : ℕ) → length (f v).rest ≤ n) → length (at_decimal d ts f).rest ≤ n
at_decimal_short None ts f n h k = h
at_decimal_short (Some digit) ts f n h k = k digit

pub decimals_short : (ts : List Token) → length (decimals ts).rest ≤ length ts
decimals_short [] = omega arith
decimals_short (t ∷ rest) = at_decimal_short (digit_of 10 t) (t ∷ rest) (λ (d : ℕ). before_digits d (decimals rest)) (suc (length rest)) (omega arith) (λ v. omega (arith, decimals_short rest))

pub whole_short : (some : Bool) (whole : ℕ) (ts : List Token) → Shortens ts (after_whole some whole ts)
whole_short some whole [] = within_if none 0 some (Got (record { whole = whole; part = 0 }) []) (Fault BadDimension 0) (omega arith) tt
whole_short some whole (t ∷ rest) =
    within_if none (4 * length (t ∷ rest)) (is_point (character_code t.kind)) (with_decimals whole (decimals rest)) (if some then Got (record { whole = whole; part = 0 }) (t ∷ rest) else Fault BadDimension (length rest + 1))
    (omega (arith, decimals_short rest))
    (within_if none (4 * length (t ∷ rest)) some (Got (record { whole = whole; part = 0 }) (t ∷ rest)) (Fault BadDimension (length rest + 1)) (omega arith) tt)

pub factor_short : (ts : List Token) → Shortens ts (factor ts)
factor_short ts = within_more none (4 * length (digits 10 0 ts).rest) (4 * length ts) (after_whole (nat_lt (length (digits 10 0 ts).rest) (length ts)) (digits 10 0 ts).value (digits 10 0 ts).rest) (omega (arith, digits_short 10 0 ts)) (whole_short (nat_lt (length (digits 10 0 ts).rest) (length ts)) (digits 10 0 ts).value (digits 10 0 ts).rest)

module _ (units : Units) where
  pub dimension_short : (mu negative : Bool) (ts : List Token) → Shortens ts (dimension_from units mu negative ts)
  dimension_short mu negative ts =
      within_next none none (4 * length (signs false ts).rest) (4 * length ts) (factor (signs false ts).rest)
      (λ (f : Decimal) (after : List Token). then_read (measure mu (after_spaces after)) (dimension_of units negative (length ts) (signs false ts).minus f))
      (factor_short (signs false ts).rest)
      (λ f after w. within_next none none (4 * length (after_spaces after)) (4 * length ts) (measure mu (after_spaces after))
      (dimension_of units negative (length ts) (signs false ts).minus f)
      (measure_short mu (after_spaces after))
      (λ m rest v. in_range_short negative (length ts) f.whole (with_sign (signs false ts).minus (length_of units m f)) rest (4 * length ts) (omega (arith, v, w, spaces_short after, signs_short false ts))))
    where
      in_range_short : (negative : Bool) (first whole : ℕ) (value : ℤ) (rest : List Token) (b : ℕ) → 4 * length rest ≤ b → Within none b (dimension_in_range negative first whole value rest)
      in_range_short negative first whole value rest b h = grind (arith, h)

  pub letters_short : (word : List ℕ) (ts rest : List Token) → after_letters word ts ≡ Some rest → length rest ≤ length ts
  letters_short [] ts rest e = grind (arith, e)
  letters_short (c ∷ cs) [] rest e = grind (arith, e)
  letters_short (c ∷ cs) (t ∷ ts) rest e = grind (arith, e, letters_short cs ts rest)

  pub amount_after_short : (found : Option (List Token)) (mu : Bool) (ts : List Token) → ((rest : List Token) → found ≡ Some rest → length rest ≤ length ts) → Shortens ts (amount_after units found mu ts)
  amount_after_short None mu ts h = omega arith
  amount_after_short (Some rest) mu ts h = within_more none (4 * length rest) (4 * length ts) (dimension_from units mu false rest) (omega (arith, h rest refl)) (dimension_short mu false rest)

  pub amount_short : (word : List ℕ) (mu : Bool) (ts : List Token) → Shortens ts (amount units word mu ts)
  amount_short word mu ts = amount_after_short (after_letters word (after_spaces ts)) mu ts (λ rest e. omega (arith, letters_short word (after_spaces ts) rest e, spaces_short ts))

  pub glue_short : (mu : Bool) (ts : List Token) → Shortens ts (glue units mu ts)
  glue_short mu ts =
      within_next none none (4 * length ts) (4 * length ts) (dimension units mu ts)
      (λ (width : ℤ) (after : List Token). then_read (amount units (codes "plus") mu after) (λ (stretch : ℤ) (later : List Token). then_read (amount units (codes "minus") mu later) (λ (shrink : ℤ) (rest : List Token). Got (record { width = width; shrink = shrink }) rest)))
      (dimension_short mu true ts)
      (λ width after w. within_next none none (4 * length after) (4 * length ts) (amount units (codes "plus") mu after)
      (λ (stretch : ℤ) (later : List Token). then_read (amount units (codes "minus") mu later) (λ (shrink : ℤ) (rest : List Token). Got (record { width = width; shrink = shrink }) rest))
      (amount_short (codes "plus") mu after)
      (λ stretch later v. within_next none none (4 * length later) (4 * length ts) (amount units (codes "minus") mu later)
      (λ (shrink : ℤ) (rest : List Token). Got (record { width = width; shrink = shrink }) rest)
      (amount_short (codes "minus") mu later)
      (λ shrink rest u. omega (arith, u, v, w))))

-- delimiters
pub by_code_short : (code : Option ℕ) (rest : List Token) (b : ℕ) → 4 * length rest ≤ b → Within none b (delimiter_by_code code rest)
by_code_short None rest b h = tt
by_code_short (Some code) rest b h = omega (arith, h)

module _ (tables : CodeTables) where
  pub delimiter_at_short : (t : Token) (rest : List Token) (s : Role) → Within none (4 * length rest + 4) (delimiter_at tables t rest s)
  delimiter_at_short t rest DelimiterWord = within_next none none (4 * length rest) (4 * length rest + 4) (delimiter_number rest) (λ (code : ℕ) (after : List Token). Got (delim_of code) after) (number_to_short max_delimiter rest) (λ code after w. omega (arith, w))
  delimiter_at_short t rest _ = by_code_short (code_of_kind tables t.kind) rest (4 * length rest + 4) (omega arith)

  pub delimiter_here_short : (ts : List Token) → Shortens ts (delimiter_here tables ts)
  delimiter_here_short [] = tt
  delimiter_here_short (t ∷ rest) = within_more none (4 * length rest + 4) (4 * length (t ∷ rest)) (delimiter_at tables t rest (role_of tables t)) (omega arith) (delimiter_at_short t rest (role_of tables t))

  pub delimiter_short : (ts : List Token) → Shortens ts (scan_delimiter tables ts)
  delimiter_short ts = within_more none (4 * length (after_blanks tables ts)) (4 * length ts) (scan_delimiter tables ts) (omega (arith, blanks_short tables ts)) (delimiter_here_short (after_blanks tables ts))

  pub opening_takes : (opens : Role → Bool) (level : ℕ) (ts : List Token) → Within (λ (here : ⊤). 4) (4 * length ts) (opening tables opens level ts)
  opening_takes opens level [] = tt
  opening_takes opens level (t ∷ rest) =
      within_if (λ (here : ⊤). 4) (4 * length (t ∷ rest)) (opens (role_of tables t)) (if nat_lt level max_groups then Got tt rest else Fault TooDeep (length rest + 1)) (Fault MissingField (length rest + 1))
      (within_if (λ (here : ⊤). 4) (4 * length (t ∷ rest)) (nat_lt level max_groups) (Got tt rest) (Fault TooDeep (length rest + 1)) (omega arith) tt) tt
