-- The bytes by which the writer states an operation (`Emits`).
use Rattle.std.specs.Prelude.{◌≡◌, ℕ, ◌+◌, ◌<◌, ◌≤◌, ℤ, pos, nat_abs, List, [], ◌∷◌, ◌++◌, length, true, false, nat_lt, if◌then◌else◌}
use Rattle.mt_dvi.specs.Opcodes as opcodes
use Rattle.mt_dvi.specs.Codes as codes
use Rattle.mt_dvi.specs.Codes.{four_bytes, Operation, Char, Rule, Bop, Eop, Set, Add, Select, Define, Pre, Post, PostPost, Preamble, Postamble, operand_size, operation, signed_of}
use Rattle.mt_dvi.specs.Moves.{least_size}
use Rattle.mt_dvi.specs.declared.emit.Register.{Register}
use Rattle.mt_dvi.specs.declared.emit.Register.TheVariants.{W, X, Y, Z}

-- at most 2^31 - 1 in size
abbrev pub FitsFourBytes : ℤ → Type 0
FitsFourBytes x = nat_abs x < 2147483648

-- four bytes are appended whose number is x
pub record AppendsSigned (old new : List ℕ) (x : ℤ) : Type 0 where
  pub whole : ℕ
  pub is : new ≡ old ++ four_bytes whole
  pub signed : signed_of 4 whole ≡ x

abbrev pub register_value : Register → codes.Register
register_value W = codes.W
register_value X = codes.X
register_value Y = codes.Y
register_value Z = codes.Z

-- the opcode that moves by the amount of a register
abbrev pub zero_code : codes.Register → ℕ
zero_code codes.W = opcodes.w0
zero_code codes.X = opcodes.x0
zero_code codes.Y = opcodes.y0
zero_code codes.Z = opcodes.z0

-- the opcode by which the writer states an operation, and how many bytes of operands it has then
abbrev pub own_code : Operation → ℕ
own_code (Char true code) = opcodes.put1
own_code (Char false code) = if nat_lt code opcodes.set1 then code else opcodes.set1
own_code (Rule put height width) = if put then opcodes.put_rule else opcodes.set_rule
own_code (Bop counts before) = opcodes.bop
own_code Eop = opcodes.eop
own_code (Set register amount) = zero_code register + least_size amount
own_code (Add register) = zero_code register
own_code (Select n) = opcodes.fnt_num_0 + n
own_code (Define d) = opcodes.fnt_def1
own_code (Pre p) = opcodes.pre
own_code (Post p) = opcodes.post
own_code (PostPost post version) = opcodes.post_post
own_code op = opcodes.nop

abbrev pub own_size : Operation → ℕ
own_size (Char true code) = 1
own_size (Char false code) = if nat_lt code opcodes.set1 then 0 else 1
own_size (Rule put height width) = 8
own_size (Bop counts before) = 44
own_size (Set register amount) = least_size amount
own_size (Define d) = 15 + length d.name
own_size (Pre p) = 14
own_size (Post p) = 28
own_size (PostPost post version) = 5
own_size op = 0

-- these bytes are one operation, whatever follows them, as the writer states it
pub record IsCode (bytes : List ℕ) (op : Operation) : Type 0 where
  pub code : ℕ
  pub operands : List ℕ
  pub is : bytes ≡ code ∷ operands
  pub own_code : code ≡ own_code op
  pub own_size : length operands ≡ own_size op
  pub size : (rest : List ℕ) → operand_size code (operands ++ rest) ≡ length operands
  pub reads : operation code operands ≡ op

-- the bytes of one operation are appended, at most so many
pub record Emits (most : ℕ) (old new : List ℕ) (op : Operation) : Type 0 where
  pub bytes : List ℕ
  pub is : new ≡ old ++ bytes
  pub code : IsCode bytes op
  pub long : length bytes ≤ most

-- the pre and the post that the writer states
abbrev pub own_preamble : Preamble
own_preamble = record { version = 2; num = 25400000; den = 473628672; mag = pos 1000; comment = [] }

abbrev pub own_postamble : ℤ → ℕ → ℕ → ℕ → Postamble
own_postamble last tallest widest pages = record {
  last = last;
  num = 25400000;
  den = 473628672;
  mag = pos 1000;
  tallest = tallest;
  widest = widest;
  depth = 0;
  pages = pages;
}
