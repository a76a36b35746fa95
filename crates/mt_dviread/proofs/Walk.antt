-- The reader's loop: what is left of a file gives the answer (`cut_off`, `went`, `failed`, `ended`).
use Rattle.std.proofs.Common.{◌≡◌, ℕ, zero, suc, ◌+◌, ◌<◌, ◌≤◌, List, [], ◌∷◌, length, drop, take, refl, arith}
use Rattle.std.specs.Prelude.{Ok, Err, true, false, nat_lt}
use Rattle.std.proofs.lemmas.Bool.Decides.{nat_tests}
use Rattle.mt_family.specs.SetValue.{SetValue}
use Rattle.mt_dvi.specs.Codes.{operand_size, operation}
use Rattle.mt_dvi.specs.Machine.{Cause, Truncated}
use Rattle.mt_dvi.specs.File.{File, Continues, Ends, Fails, file_step, reading, advance}

-- operands are passed over
passed : (fonts : SetValue) (file : File) (n : ℕ) (bytes : List ℕ) → n ≤ length bytes → reading fonts file n bytes ≡ reading fonts file 0 (drop n bytes)
unfolding reading
passed fonts file zero bytes long = refl
passed fonts file (suc n) [] long = absurd (omega arith)
passed fonts file (suc n) (byte ∷ bytes) long = passed fonts file n bytes (omega arith)

-- no opcode is left
pub at_end : (fonts : SetValue) (file : File) → reading fonts file 0 [] ≡ Err (record { cause = Truncated; at = file.at })
unfolding reading
at_end fonts file = refl

-- the file ends inside the operands
pub cut_off : (fonts : SetValue) (file : File) (code : ℕ) (bytes : List ℕ) → length bytes < operand_size code bytes → reading fonts file 0 (code ∷ bytes) ≡ Err (record { cause = Truncated; at = file.at })
unfolding reading
cut_off fonts file code bytes short =
    let e : nat_lt (length bytes) (operand_size code bytes) ≡ true = grind (arith, nat_tests) in
    rw e refl

pub went : (fonts : SetValue) (file next : File) (code : ℕ) (bytes : List ℕ) → operand_size code bytes ≤ length bytes
    → file_step fonts file (operation code (take (operand_size code bytes) bytes)) (drop (operand_size code bytes) bytes) ≡ Continues next
    → reading fonts file 0 (code ∷ bytes) ≡ reading fonts (advance next (operand_size code bytes + 1)) 0 (drop (operand_size code bytes) bytes)
unfolding reading
went fonts file next code bytes long is =
    let e : nat_lt (length bytes) (operand_size code bytes) ≡ false = grind (arith, nat_tests) in
    rw (e, is) (passed fonts (advance next (operand_size code bytes + 1)) (operand_size code bytes) bytes long)

pub failed : (fonts : SetValue) (file : File) (cause : Cause) (code : ℕ) (bytes : List ℕ) → operand_size code bytes ≤ length bytes
    → file_step fonts file (operation code (take (operand_size code bytes) bytes)) (drop (operand_size code bytes) bytes) ≡ Fails cause
    → reading fonts file 0 (code ∷ bytes) ≡ Err (record { cause = cause; at = file.at })
unfolding reading
failed fonts file cause code bytes long is =
    let e : nat_lt (length bytes) (operand_size code bytes) ≡ false = grind (arith, nat_tests) in
    rw (e, is) refl

pub ended : (fonts : SetValue) (file last : File) (code : ℕ) (bytes : List ℕ) → operand_size code bytes ≤ length bytes
    → file_step fonts file (operation code (take (operand_size code bytes) bytes)) (drop (operand_size code bytes) bytes) ≡ Ends last
    → reading fonts file 0 (code ∷ bytes) ≡ Ok last
unfolding reading
ended fonts file last code bytes long is =
    let e : nat_lt (length bytes) (operand_size code bytes) ≡ false = grind (arith, nat_tests) in
    rw (e, is) refl
