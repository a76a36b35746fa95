-- The operation of an opcode in a range.
use Rattle.std.proofs.Common.{◌≡◌, ℕ, ◌+◌, ◌-◌, ◌≤◌, List, [], ◌∷◌, length, drop, refl, sym, ◌∙◌, arith}
use Rattle.std.proofs.lemmas.Bool.Decides.{nat_tests}
use Rattle.mt_dvi.specs.Codes.{operand_size, operation, signed, definition, four_byte_numbers}
use Rattle.mt_dvi.specs.Codes as codes
use Rattle.mt_dviread.specs.inner.Operations.{by_register}

pub is_bop : (code : ℕ) (o : List ℕ) → code ≡ 139 → operation code o ≡ codes.Bop (four_byte_numbers 10 o) (signed (drop 40 o))
unfolding operation
is_bop code o e = rw e refl

pub is_pop : (code : ℕ) (o : List ℕ) → code ≡ 142 → operation code o ≡ codes.Pop
unfolding operation
is_pop code o e = rw e refl

pub is_right : (code : ℕ) (o : List ℕ) → 143 ≤ code → code ≤ 146 → operation code o ≡ codes.Right (signed o)
unfolding operation
is_right code o low high = grind (arith, nat_tests)

is_w : (code : ℕ) (o : List ℕ) → 148 ≤ code → code ≤ 151 → operation code o ≡ codes.Set codes.W (signed o)
unfolding operation
is_w code o low high = grind (arith, nat_tests)

is_x : (code : ℕ) (o : List ℕ) → 153 ≤ code → code ≤ 156 → operation code o ≡ codes.Set codes.X (signed o)
unfolding operation
is_x code o low high = grind (arith, nat_tests)

pub is_down : (code : ℕ) (o : List ℕ) → 157 ≤ code → code ≤ 160 → operation code o ≡ codes.Down (signed o)
unfolding operation
is_down code o low high = grind (arith, nat_tests)

is_y : (code : ℕ) (o : List ℕ) → 162 ≤ code → code ≤ 165 → operation code o ≡ codes.Set codes.Y (signed o)
unfolding operation
is_y code o low high = grind (arith, nat_tests)

is_z : (code : ℕ) (o : List ℕ) → 167 ≤ code → code ≤ 170 → operation code o ≡ codes.Set codes.Z (signed o)
unfolding operation
is_z code o low high = grind (arith, nat_tests)

pub is_special : (code : ℕ) (o : List ℕ) → 239 ≤ code → code ≤ 242 → operation code o ≡ codes.Special (drop (code - 239 + 1) o)
unfolding operation
is_special code o low high = grind (arith, nat_tests)

pub is_definition : (code : ℕ) (o : List ℕ) → 243 ≤ code → code ≤ 246 → operation code o ≡ codes.Define (definition (code - 243 + 1) o)
unfolding operation
is_definition code o low high = grind (arith, nat_tests)

pub is_undefined : (code : ℕ) (o : List ℕ) → 250 ≤ code → operation code o ≡ codes.Undefined
unfolding operation
is_undefined code o low = grind (arith, nat_tests)

is_w_0 : (code : ℕ) (o : List ℕ) → code ≡ 147 → operation code o ≡ codes.Add codes.W
unfolding operation
is_w_0 code o e = rw e refl

is_x_0 : (code : ℕ) (o : List ℕ) → code ≡ 152 → operation code o ≡ codes.Add codes.X
unfolding operation
is_x_0 code o e = rw e refl

is_y_0 : (code : ℕ) (o : List ℕ) → code ≡ 161 → operation code o ≡ codes.Add codes.Y
unfolding operation
is_y_0 code o e = rw e refl

is_z_0 : (code : ℕ) (o : List ℕ) → code ≡ 166 → operation code o ≡ codes.Add codes.Z
unfolding operation
is_z_0 code o e = rw e refl

-- a move by a register, of which the first opcode has no operands
by_one : (r : codes.Register) (code first : ℕ) (o : List ℕ) → (code ≡ first → operation code o ≡ codes.Add r) → (first + 1 ≤ code → operation code o ≡ codes.Set r (signed o)) → length o ≡ code - first → first ≤ code → by_register r o ≡ operation code o
by_one r code first [] add set long low = sym (add (omega (arith, long, low)))
by_one r code first (b ∷ o) add set long low = sym (set (omega (arith, long, low)))

size_w : (code : ℕ) (o : List ℕ) → 147 ≤ code → code ≤ 151 → operand_size code o ≡ code - 147
unfolding operand_size
size_w code o low high = grind (arith, nat_tests)

size_x : (code : ℕ) (o : List ℕ) → 152 ≤ code → code ≤ 156 → operand_size code o ≡ code - 152
unfolding operand_size
size_x code o low high = grind (arith, nat_tests)

size_y : (code : ℕ) (o : List ℕ) → 161 ≤ code → code ≤ 165 → operand_size code o ≡ code - 161
unfolding operand_size
size_y code o low high = grind (arith, nat_tests)

size_z : (code : ℕ) (o : List ℕ) → 166 ≤ code → code ≤ 170 → operand_size code o ≡ code - 166
unfolding operand_size
size_z code o low high = grind (arith, nat_tests)

pub by_w : (code : ℕ) (o : List ℕ) → 147 ≤ code → code ≤ 151 → length o ≡ operand_size code o → by_register codes.W o ≡ operation code o
by_w code o low high long = by_one codes.W code 147 o (is_w_0 code o) (λ l. is_w code o l high) (long ∙ size_w code o low high) low

pub by_x : (code : ℕ) (o : List ℕ) → 152 ≤ code → code ≤ 156 → length o ≡ operand_size code o → by_register codes.X o ≡ operation code o
by_x code o low high long = by_one codes.X code 152 o (is_x_0 code o) (λ l. is_x code o l high) (long ∙ size_x code o low high) low

pub by_y : (code : ℕ) (o : List ℕ) → 161 ≤ code → code ≤ 165 → length o ≡ operand_size code o → by_register codes.Y o ≡ operation code o
by_y code o low high long = by_one codes.Y code 161 o (is_y_0 code o) (λ l. is_y code o l high) (long ∙ size_y code o low high) low

pub by_z : (code : ℕ) (o : List ℕ) → 166 ≤ code → code ≤ 170 → length o ≡ operand_size code o → by_register codes.Z o ≡ operation code o
by_z code o low high long = by_one codes.Z code 166 o (is_z_0 code o) (λ l. is_z code o l high) (long ∙ size_z code o low high) low
