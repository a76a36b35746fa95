-- Assignments of codes (The TeXbook, chapter 17).
use Rattle.std.specs.Prelude.{ℕ, ◌==◌, nat_le, ℤ, pos, negsuc, List, [], ◌∷◌, length, Option, Some, None, if◌then◌else◌}
use Rattle.mt_token.specs.declared.token.Token.{Token}
use Rattle.mt_token.specs.Character.{character_code}
use Rattle.mt_plain.specs.CodeTables.{CodeTables, with_math_code, with_delcode}
use Rattle.mt_plain.specs.Limits.{max_delimiter_code, max_math_code}
use Rattle.mt_scan.specs.declared.fault.ReadCause.TheVariants.{BadNumber}
use Rattle.mt_scan.specs.Parts.{Read, Got, Fault, then_read, after_spaces}
use Rattle.mt_scan.specs.Numbers.{whole_number, number_to}

-- 61 is =
abbrev pub after_equals : List Token → List Token
after_equals [] = []
after_equals (t ∷ rest) = if character_code t.kind == 61 then after_spaces rest else t ∷ rest

-- a character, perhaps = between Spaces, and then a code
abbrev pub assignment : {A : Type 0} → (List Token → Read A) → (ℕ → A → CodeTables)
    → List Token → Read CodeTables
assignment code change tokens =
    then_read (number_to 127 tokens) (λ c after.
    then_read (code (after_equals (after_spaces after))) (λ value rest. Got (change c value) rest))

-- a number of at most 2^24 - 1; a negative one means that there is no code
abbrev pub code_or_none : ℕ → ℤ → List Token → Read (Option ℕ)
code_or_none first (pos n) rest = if nat_le n max_delimiter_code then Got (Some n) rest else Fault BadNumber first
code_or_none first (negsuc n) rest = Got None rest

abbrev pub delimiter_value : List Token → Read (Option ℕ)
delimiter_value tokens = then_read (whole_number tokens) (code_or_none (length tokens))

-- the tables after \mathcode and what follows it
abbrev pub math_code_assignment : CodeTables → List Token → Read CodeTables
math_code_assignment tables tokens = assignment (number_to max_math_code) (with_math_code tables) tokens

-- the tables after \delcode and what follows it
abbrev pub delcode_assignment : CodeTables → List Token → Read CodeTables
delcode_assignment tables tokens = assignment delimiter_value (with_delcode tables) tokens
