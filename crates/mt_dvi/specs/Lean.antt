-- A lean file (`Lean`): which moves and selections it may have, and how many bytes their operands.
use Rattle.std.specs.Prelude.{◌≡◌, ℕ, ℤ, pos, List, [], ◌∷◌, ◌++◌, All, Option, Bool, true, false, not, nat_lt, ◌==◌, ◌&&◌, ◌||◌, if◌then◌else◌}
use Rattle.std.specs.Ordering.{int_eq}
use Rattle.std.specs.Option.{option_eq}
use Rattle.std.specs.List.{list_all}
use Rattle.mt_family.specs.SetValue.{SetValue}
use Rattle.mt_dvi.specs.Opcodes.{set1, fnt1}
use Rattle.mt_dvi.specs.Codes.{Operation, Char, Rule, Nop, Push, Pop, Right, Down, Set, Add, Select, Special, Register, W, X, Y, Z}
use Rattle.mt_dvi.specs.Machine.{Registers, is_positive}
use Rattle.mt_dvi.specs.Moves.{least_size}
use Rattle.mt_dvi.specs.Trace.{Opcode, traced}

-- right, down, push, pop, nop and xxx do not occur, and each rule has a positive height and a positive width
abbrev pub is_allowed : Operation → Bool
is_allowed (Right by) = false
is_allowed (Down by) = false
is_allowed Push = false
is_allowed Pop = false
is_allowed Nop = false
is_allowed (Special bytes) = false
is_allowed (Rule put height width) = is_positive height && is_positive width
is_allowed op = true

abbrev pub is_same_font : Option ℕ → Option ℕ → Bool
is_same_font font other = option_eq (λ (m : ℕ) (n : ℕ). m == n) font other

abbrev pub is_char : Operation → Bool
is_char (Char put code) = true
is_char op = false

-- there is a next glyph, and it is of this font
abbrev pub is_font_of_next : Option ℕ → List Opcode → Bool
is_font_of_next font [] = false
is_font_of_next font (opcode ∷ opcodes) =
    if is_char opcode.says then is_same_font opcode.before.font font else is_font_of_next font opcodes

-- a font is selected only where it is that of the next glyph and is not selected already
abbrev pub is_needed : Operation → Opcode → List Opcode → Bool
is_needed (Select n) opcode later =
    is_font_of_next opcode.after.font later && not (is_same_font opcode.before.font opcode.after.font)
is_needed op opcode later = true

abbrev pub are_needed : List Opcode → Bool
are_needed [] = true
are_needed (opcode ∷ opcodes) = is_needed opcode.says opcode opcodes && are_needed opcodes

-- one of the two registers of an axis holds this amount
abbrev pub is_held : Registers → Register → ℤ → Bool
is_held now W by = int_eq by now.w || int_eq by now.x
is_held now X by = int_eq by now.w || int_eq by now.x
is_held now Y by = int_eq by now.y || int_eq by now.z
is_held now Z by = int_eq by now.y || int_eq by now.z

-- no w or x has an operand that w or x holds, and no y or z one that y or z holds
abbrev pub sets_anew : Registers → Operation → Bool
sets_anew now (Set register by) = not (is_held now register by)
sets_anew now op = true

abbrev pub amount_in : Registers → Register → ℤ
amount_in now W = now.w
amount_in now X = now.x
amount_in now Y = now.y
amount_in now Z = now.z

-- no move adds 0, so no operand of w, x, y or z is 0
abbrev pub is_no_zero : Registers → Operation → Bool
is_no_zero now (Set register by) = not (int_eq by (pos 0))
is_no_zero now (Add register) = not (int_eq (amount_in now register) (pos 0))
is_no_zero now op = true

abbrev pub register_number : Register → ℕ
register_number W = 0
register_number X = 1
register_number Y = 2
register_number Z = 3

abbrev pub sets : Register → Operation → Bool
sets register (Set other by) = register_number register == register_number other
sets register op = false

-- two registers are set in turn, the one that is named first next
abbrev pub are_in_turn : Register → Register → List Opcode → Bool
are_in_turn next other [] = true
are_in_turn next other (opcode ∷ opcodes) =
    if sets other opcode.says then false
    else if sets next opcode.says then are_in_turn other next opcodes
    else are_in_turn next other opcodes

pub data Axis : Type 0 where
  Across : Axis
  Downward : Axis

abbrev pub moves_by : Register → List Axis
moves_by W = Across ∷ []
moves_by X = Across ∷ []
moves_by Y = Downward ∷ []
moves_by Z = Downward ∷ []

abbrev pub moves_of : Operation → List Axis
moves_of (Set register by) = moves_by register
moves_of (Add register) = moves_by register
moves_of op = []

-- an opcode that fills a place, where each rule has positive sides
abbrev pub fills : Operation → Bool
fills (Char put code) = true
fills (Rule put height width) = true
fills op = false

abbrev pub is_none : List Axis → Bool
is_none [] = true
is_none moves = false

-- at most one move across, and then at most one downward
abbrev pub are_few : List Axis → Bool
are_few [] = true
are_few (Across ∷ moves) = is_none moves || are_down moves where
  are_down : List Axis → Bool
  are_down (Downward ∷ []) = true
  are_down moves = false
are_few (Downward ∷ moves) = is_none moves

-- so it is before each place, and none is after the last one
abbrev pub are_modest : List Axis → List Opcode → Bool
are_modest moves [] = is_none moves
are_modest moves (opcode ∷ opcodes) =
    if fills opcode.says then are_few moves && are_modest [] opcodes
    else are_modest (moves ++ moves_of opcode.says) opcodes

-- set_char below 128, and else one byte of operand
abbrev pub is_short_char : ℕ → ℕ → Bool → ℕ → Bool
is_short_char opcode size put code =
    nat_lt opcode set1 || (size == 1 && (put || not (nat_lt code set1)))

-- no operand could be shorter: that of a move has the least number of bytes that hold it as a signed number, and a font
-- is selected by fnt_num
abbrev pub is_short : ℕ → ℕ → Operation → Bool
is_short code size (Set register by) = size == least_size by
is_short code size (Char put character) = is_short_char code size put character
is_short code size (Select n) = nat_lt code fnt1
is_short code size op = true

-- the opcodes between bop and eop of a page
pub record LeanPage (page : List Opcode) : Type 0 where
  pub allowed : list_all (λ (opcode : Opcode). is_allowed opcode.says) page ≡ true
  pub selections : are_needed page ≡ true
  pub anew : list_all (λ (opcode : Opcode). sets_anew opcode.before.now opcode.says) page ≡ true
  -- the first operand across goes to w, and the first one downward to y
  pub across : are_in_turn W X page ≡ true
  pub downward : are_in_turn Y Z page ≡ true
  pub modest : are_modest [] page ≡ true
  pub no_zero : list_all (λ (opcode : Opcode). is_no_zero opcode.before.now opcode.says) page ≡ true
  pub short : list_all (λ (opcode : Opcode). is_short opcode.code opcode.size opcode.says) page ≡ true

pub record Lean (fonts : SetValue) (bytes : List ℕ) : Type 0 where
  pub pages : All LeanPage (traced fonts bytes).pages
  -- each definition of a font, in a page or not, states its number in one byte
  pub numbers : list_all (λ (size : ℕ). size == 1) (traced fonts bytes).numbers ≡ true
