-- The opcode at an offset (`opcode_at`): its number, and where it ends.
use Rattle.std.specs.Prelude.{ℕ, ◌+◌, List, [], ◌∷◌, length, drop, Option, Some, None, nat_lt, ◌||◌, if◌then◌else◌}
use Rattle.mt_dviread.specs.declared.opcode.Opcode.{Opcode}
use Rattle.mt_dvi.specs.Opcodes.{post_post}
use Rattle.mt_dvi.specs.Codes.{operand_size}

-- the opcode that these bytes begin with, of which the first is at this offset: none where there is no byte, where the
-- number is none of an opcode, and where the bytes end inside the operands
abbrev pub opcode_of : ℕ → List ℕ → Option Opcode
opcode_of at [] = None
opcode_of at (code ∷ rest) =
    if nat_lt post_post code || nat_lt (length rest) (operand_size code rest) then None
    else Some (record { code = code; end = at + 1 + operand_size code rest })

abbrev pub opcode_at : List ℕ → ℕ → Option Opcode
opcode_at bytes at = opcode_of at (drop at bytes)
