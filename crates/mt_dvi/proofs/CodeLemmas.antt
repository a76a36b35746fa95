-- Bytes that are one operation (`code_right` and the others), and bytes appended in pieces (`emits_1`, `emits_2`).
use Rattle.std.proofs.Common.{◌^◌, ◌≡◌, ℕ, ◌+◌, ◌-◌, ◌*◌, ◌/◌, ◌%◌, ◌<◌, ◌≤◌, List, [], ◌∷◌, ◌++◌, refl, sym, ◌∙◌, ap, subst, arith, length, append_assoc, length-append}
use Rattle.std.specs.Prelude.{ℤ, pos, negsuc, ◌-ℤ◌, true, false, Bool, nat_lt, nat_le, ◌≢◌}
use Rattle.std.proofs.lemmas.Int.{ints}
use Rattle.std.proofs.lemmas.Bool.Decides.{nat_tests}
use Rattle.std.specs.Prelude.{if◌then◌else◌}
use Rattle.std.specs.Int.{to_be_bytes, w32}
use Rattle.mt_dvi.specs.Encoded.{definition_bytes, twos_complement}
use Rattle.mt_dvi.specs.Codes.{four_bytes, Definition, Add, Bop, Char, Define, Eop, Operation, Post, PostPost, Pre, Register, Rule, Select, Set, W, X, Y, Z, operand_size, operation, signed, signed_of, unsigned}
use Rattle.mt_dvi.specs.Moves.{fits_signed, least_size}
use Rattle.mt_dvi.specs.writer.Emits.{Emits, FitsFourBytes, IsCode, own_postamble, own_preamble, zero_code}
use Rattle.mt_dvi.specs.WrittenPlaces.{page_counts}

-- the four bytes are the number
pub whole : (x : ℕ) → unsigned (four_bytes x) ≡ x
whole x = omega arith

-- the four bytes as std gives them
pub high_first : (x : ℕ) → x < 2 ^ 32 → to_be_bytes w32 x ≡ four_bytes x
high_first x lt =
    let highest : x / 16777216 % 256 ≡ x / 16777216 = omega (arith, lt) in
    rw highest refl

size_w : (n : ℕ) (rest : List ℕ) → 1 ≤ n → n ≤ 4 → operand_size (147 + n) rest ≡ n
unfolding operand_size
size_w n rest low high = grind (arith, nat_tests)

size_x : (n : ℕ) (rest : List ℕ) → 1 ≤ n → n ≤ 4 → operand_size (152 + n) rest ≡ n
unfolding operand_size
size_x n rest low high = grind (arith, nat_tests)

size_y : (n : ℕ) (rest : List ℕ) → 1 ≤ n → n ≤ 4 → operand_size (161 + n) rest ≡ n
unfolding operand_size
size_y n rest low high = grind (arith, nat_tests)

size_z : (n : ℕ) (rest : List ℕ) → 1 ≤ n → n ≤ 4 → operand_size (166 + n) rest ≡ n
unfolding operand_size
size_z n rest low high = grind (arith, nat_tests)

op_w : (n : ℕ) (o : List ℕ) → 1 ≤ n → n ≤ 4 → operation (147 + n) o ≡ Set W (signed o)
unfolding operation
op_w n o low high = grind (arith, nat_tests)

op_x : (n : ℕ) (o : List ℕ) → 1 ≤ n → n ≤ 4 → operation (152 + n) o ≡ Set X (signed o)
unfolding operation
op_x n o low high = grind (arith, nat_tests)

op_y : (n : ℕ) (o : List ℕ) → 1 ≤ n → n ≤ 4 → operation (161 + n) o ≡ Set Y (signed o)
unfolding operation
op_y n o low high = grind (arith, nat_tests)

op_z : (n : ℕ) (o : List ℕ) → 1 ≤ n → n ≤ 4 → operation (166 + n) o ≡ Set Z (signed o)
unfolding operation
op_z n o low high = grind (arith, nat_tests)

set_size : (register : Register) (n : ℕ) (rest : List ℕ) → 1 ≤ n → n ≤ 4 → operand_size (zero_code register + n) rest ≡ n
set_size W n rest low high = size_w n rest low high
set_size X n rest low high = size_x n rest low high
set_size Y n rest low high = size_y n rest low high
set_size Z n rest low high = size_z n rest low high

set_operation : (register : Register) (n : ℕ) (o : List ℕ) → 1 ≤ n → n ≤ 4 → operation (zero_code register + n) o ≡ Set register (signed o)
set_operation W n o low high = op_w n o low high
set_operation X n o low high = op_x n o low high
set_operation Y n o low high = op_y n o low high
set_operation Z n o low high = op_z n o low high

-- w1 to w4 and the like
pub code_set_register : (register : Register) (n : ℕ) (o : List ℕ) (by : ℤ) → n ≡ least_size by → length o ≡ n → 1 ≤ n → n ≤ 4 → signed o ≡ by → IsCode ((zero_code register + n) ∷ o) (Set register by)
code_set_register register n o by least long low high is = record {
  code = zero_code register + n;
  operands = o;
  is = refl;
  own_code = ap (λ (k : ℕ). zero_code register + k) least;
  own_size = long ∙ least;
  size = λ rest. set_size register n (o ++ rest) low high ∙ sym long;
  reads = set_operation register n o low high ∙ ap (Set register) is;
}

-- w0 and the like
pub code_add : (register : Register) → IsCode (zero_code register ∷ []) (Add register)
unfolding operation operand_size
code_add W = record { code = 147; operands = []; is = refl; own_code = refl; own_size = refl; size = λ rest. refl; reads = refl }
code_add X = record { code = 152; operands = []; is = refl; own_code = refl; own_size = refl; size = λ rest. refl; reads = refl }
code_add Y = record { code = 161; operands = []; is = refl; own_code = refl; own_size = refl; size = λ rest. refl; reads = refl }
code_add Z = record { code = 166; operands = []; is = refl; own_code = refl; own_size = refl; size = λ rest. refl; reads = refl }

-- two's complement in four bytes, and in fewer where they hold the number
top_pos : (x a : ℕ) → x < 4294967296 → signed_of 4 x ≡ pos a → x ≡ a
top_pos x a lt is = by_test (nat_lt (2 * x) 4294967296) is where
  by_test : (b : Bool) → (if b then pos x else pos x -ℤ pos 4294967296) ≡ pos a → x ≡ a
  by_test true e = omega (arith, ints, e)
  by_test false e = absurd (omega (arith, ints, e, lt))

top_neg : (x a : ℕ) → x < 4294967296 → signed_of 4 x ≡ negsuc a → x + a + 1 ≡ 4294967296
top_neg x a lt is = by_test (nat_lt (2 * x) 4294967296) is where
  by_test : (b : Bool) → (if b then pos x else pos x -ℤ pos 4294967296) ≡ negsuc a → x + a + 1 ≡ 4294967296
  by_test true e = absurd (omega (arith, ints, e))
  by_test false e = omega (arith, ints, e)

signed_pos : (n y a half : ℕ) → y ≡ a → a < half → 256 ^ n ≡ 2 * half → signed_of n y ≡ pos a
signed_pos n y a half is lt whole =
    let t : nat_lt (2 * y) (256 ^ n) ≡ true = grind (arith, nat_tests) in
    rw t (ap pos is)

signed_neg : (n y a half : ℕ) → y + a + 1 ≡ 2 * half → a < half → 256 ^ n ≡ 2 * half → signed_of n y ≡ negsuc a
signed_neg n y a half is lt whole =
    let t : nat_lt (2 * y) (256 ^ n) ≡ false = grind (arith, nat_tests) in
    rw (t, whole) (omega (arith, ints, is))

fits_pos : (a half : ℕ) → nat_lt a half ≡ true → a < half
fits_pos a half t = grind (arith, nat_tests)

fits_neg : (a half : ℕ) → nat_le a half ≡ true → a ≤ half
fits_neg a half t = grind (arith, nat_tests)

pub low_1 : (x : ℕ) (z : ℤ) → x < 4294967296 → signed_of 4 x ≡ z → fits_signed 128 z ≡ true → signed_of 1 (x % 256) ≡ z
low_1 x (pos a) lt is fits = let s : a < 128 = grind (arith, nat_tests) in signed_pos 1 (x % 256) a 128 (omega (arith, s, top_pos x a lt is)) s refl
low_1 x (negsuc a) lt is fits = let s : a < 128 = grind (arith, nat_tests) in signed_neg 1 (x % 256) a 128 (omega (arith, s, top_neg x a lt is)) s refl

pub low_2 : (x : ℕ) (z : ℤ) → x < 4294967296 → signed_of 4 x ≡ z → fits_signed 32768 z ≡ true → signed_of 2 (256 * (x / 256 % 256) + x % 256) ≡ z
low_2 x (pos a) lt is fits = let s : a < 32768 = grind (arith, nat_tests) in signed_pos 2 (256 * (x / 256 % 256) + x % 256) a 32768 (omega (arith, s, top_pos x a lt is)) s refl
low_2 x (negsuc a) lt is fits = let s : a < 32768 = grind (arith, nat_tests) in signed_neg 2 (256 * (x / 256 % 256) + x % 256) a 32768 (omega (arith, s, top_neg x a lt is)) s refl

pub low_3 : (x : ℕ) (z : ℤ) → x < 4294967296 → signed_of 4 x ≡ z → fits_signed 8388608 z ≡ true → signed_of 3 (256 * (256 * (x / 65536 % 256) + x / 256 % 256) + x % 256) ≡ z
low_3 x (pos a) lt is fits = let s : a < 8388608 = grind (arith, nat_tests) in signed_pos 3 (256 * (256 * (x / 65536 % 256) + x / 256 % 256) + x % 256) a 8388608 (omega (arith, s, top_pos x a lt is)) s refl
low_3 x (negsuc a) lt is fits = let s : a < 8388608 = grind (arith, nat_tests) in signed_neg 3 (256 * (256 * (x / 65536 % 256) + x / 256 % 256) + x % 256) a 8388608 (omega (arith, s, top_neg x a lt is)) s refl

-- in how many bytes it fits
pub least_1 : (z : ℤ) (n : ℕ) → n ≡ 1 → n ≡ least_size z → fits_signed 128 z ≡ true
least_1 z n one e = by_test (fits_signed 128 z) (fits_signed 32768 z) (fits_signed 8388608 z) e where
  by_test : (a b d : Bool) → n ≡ (if a then 1 else if b then 2 else if d then 3 else 4) → a ≡ true
  by_test true b d e = refl
  by_test false true d e = absurd (omega (arith, e, one))
  by_test false false true e = absurd (omega (arith, e, one))
  by_test false false false e = absurd (omega (arith, e, one))

pub least_2 : (z : ℤ) (n : ℕ) → n ≡ 2 → n ≡ least_size z → fits_signed 32768 z ≡ true
least_2 z n one e = by_test (fits_signed 128 z) (fits_signed 32768 z) (fits_signed 8388608 z) e where
  by_test : (a b d : Bool) → n ≡ (if a then 1 else if b then 2 else if d then 3 else 4) → b ≡ true
  by_test true b d e = absurd (omega (arith, e, one))
  by_test false true d e = refl
  by_test false false true e = absurd (omega (arith, e, one))
  by_test false false false e = absurd (omega (arith, e, one))

pub least_3 : (z : ℤ) (n : ℕ) → n ≡ 3 → n ≡ least_size z → fits_signed 8388608 z ≡ true
least_3 z n one e = by_test (fits_signed 128 z) (fits_signed 32768 z) (fits_signed 8388608 z) e where
  by_test : (a b d : Bool) → n ≡ (if a then 1 else if b then 2 else if d then 3 else 4) → d ≡ true
  by_test true b d e = absurd (omega (arith, e, one))
  by_test false true d e = absurd (omega (arith, e, one))
  by_test false false true e = refl
  by_test false false false e = absurd (omega (arith, e, one))

pub least_4 : (z : ℤ) (n : ℕ) → n ≡ least_size z → n ≢ 1 → n ≢ 2 → n ≢ 3 → n ≡ 4
least_4 z n e not1 not2 not3 = by_test (fits_signed 128 z) (fits_signed 32768 z) (fits_signed 8388608 z) e where
  by_test : (a b d : Bool) → n ≡ (if a then 1 else if b then 2 else if d then 3 else 4) → n ≡ 4
  by_test true b d e = absurd (not1 e)
  by_test false true d e = absurd (not2 e)
  by_test false false true e = absurd (not3 e)
  by_test false false false e = e

pub least_range : (z : ℤ) (n : ℕ) → n ≡ least_size z → (1 ≤ n) × (n ≤ 4)
least_range z n e = by_test (fits_signed 128 z) (fits_signed 32768 z) (fits_signed 8388608 z) e where
  by_test : (a b d : Bool) → n ≡ (if a then 1 else if b then 2 else if d then 3 else 4) → (1 ≤ n) × (n ≤ 4)
  by_test true b d e = (omega (arith, e), omega (arith, e))
  by_test false true d e = (omega (arith, e), omega (arith, e))
  by_test false false true e = (omega (arith, e), omega (arith, e))
  by_test false false false e = (omega (arith, e), omega (arith, e))

size_char : (c : ℕ) (rest : List ℕ) → c < 128 → operand_size c rest ≡ 0
unfolding operand_size
size_char c rest lt = grind (arith, nat_tests)

op_char : (c : ℕ) → c < 128 → operation c [] ≡ Char false c
unfolding operation
op_char c lt = grind (arith, nat_tests)

below_set : (c : ℕ) → c < 128 → nat_lt c 128 ≡ true
below_set c lt = grind (arith, nat_tests)

above_set : (c : ℕ) → 128 ≤ c → nat_lt c 128 ≡ false
above_set c le = grind (arith, nat_tests)

pub code_char : (c : ℕ) → c < 128 → IsCode (c ∷ []) (Char false c)
code_char c lt = record { code = c; operands = []; is = refl; own_code = rw (below_set c lt) refl; own_size = rw (below_set c lt) refl; size = λ rest. size_char c rest lt; reads = op_char c lt }

pub code_set : (c : ℕ) → 128 ≤ c → IsCode (128 ∷ c ∷ []) (Char false c)
unfolding operation operand_size
code_set c le = record { code = 128; operands = c ∷ []; is = refl; own_code = rw (above_set c le) refl; own_size = rw (above_set c le) refl; size = λ rest. refl; reads = refl }

pub code_put : (c : ℕ) → IsCode (133 ∷ c ∷ []) (Char true c)
unfolding operation operand_size
code_put c = record { code = 133; operands = c ∷ []; is = refl; own_code = refl; own_size = refl; size = λ rest. refl; reads = refl }

size_font : (n : ℕ) (rest : List ℕ) → n < 64 → operand_size (171 + n) rest ≡ 0
unfolding operand_size
size_font n rest lt = grind (arith, nat_tests)

op_font : (n : ℕ) → n < 64 → operation (171 + n) [] ≡ Select n
unfolding operation
op_font n lt = grind (arith, nat_tests)

pub code_select : (n : ℕ) → n < 64 → IsCode ((171 + n) ∷ []) (Select n)
code_select n lt = record { code = 171 + n; operands = []; is = refl; own_code = refl; own_size = refl; size = λ rest. size_font n rest lt; reads = op_font n lt }

pub code_set_rule : (x y : ℕ) (height width : ℤ) → signed_of 4 x ≡ height → signed_of 4 y ≡ width → IsCode (132 ∷ four_bytes x ++ four_bytes y) (Rule false height width)
unfolding operation operand_size
code_set_rule x y height width h w = record {
  code = 132;
  operands = four_bytes x ++ four_bytes y;
  is = refl;
  own_code = refl;
  own_size = refl;
  size = λ rest. refl;
  reads = ap (λ (n : ℕ). Rule false (signed_of 4 n) (signed_of 4 (unsigned (four_bytes y)))) (whole x) ∙ ap (λ (n : ℕ). Rule false (signed_of 4 x) (signed_of 4 n)) (whole y) ∙ ap (λ (z : ℤ). Rule false z (signed_of 4 y)) h ∙ ap (Rule false height) w;
}

pub code_put_rule : (x y : ℕ) (height width : ℤ) → signed_of 4 x ≡ height → signed_of 4 y ≡ width → IsCode (137 ∷ four_bytes x ++ four_bytes y) (Rule true height width)
unfolding operation operand_size
code_put_rule x y height width h w = record {
  code = 137;
  operands = four_bytes x ++ four_bytes y;
  is = refl;
  own_code = refl;
  own_size = refl;
  size = λ rest. refl;
  reads = ap (λ (n : ℕ). Rule true (signed_of 4 n) (signed_of 4 (unsigned (four_bytes y)))) (whole x) ∙ ap (λ (n : ℕ). Rule true (signed_of 4 x) (signed_of 4 n)) (whole y) ∙ ap (λ (z : ℤ). Rule true z (signed_of 4 y)) h ∙ ap (Rule true height) w;
}

pub code_rule : (put : Bool) (x y : ℕ) (height width : ℤ) → signed_of 4 x ≡ height → signed_of 4 y ≡ width → IsCode ((if put then 137 else 132) ∷ four_bytes x ++ four_bytes y) (Rule put height width)
code_rule true x y height width h w = code_put_rule x y height width h w
code_rule false x y height width h w = code_set_rule x y height width h w

abbrev zeros36 : List ℕ
zeros36 = 0 ∷ 0 ∷ 0 ∷ 0 ∷ 0 ∷ 0 ∷ 0 ∷ 0 ∷ 0 ∷ 0 ∷ 0 ∷ 0 ∷ 0 ∷ 0 ∷ 0 ∷ 0 ∷ 0 ∷ 0 ∷ 0 ∷ 0 ∷ 0 ∷ 0 ∷ 0 ∷ 0 ∷ 0 ∷ 0 ∷ 0 ∷ 0 ∷ 0 ∷ 0 ∷ 0 ∷ 0 ∷ 0 ∷ 0 ∷ 0 ∷ 0 ∷ []

pub code_bop : (n x : ℕ) (last : ℤ) → signed_of 4 x ≡ last → IsCode (139 ∷ four_bytes n ++ zeros36 ++ four_bytes x) (Bop (page_counts n) last)
unfolding operation operand_size
code_bop n x last is = record {
  code = 139;
  operands = four_bytes n ++ zeros36 ++ four_bytes x;
  is = refl;
  own_code = refl;
  own_size = refl;
  size = λ rest. refl;
  reads = ap (λ (m : ℕ). Bop (page_counts m) (signed_of 4 (unsigned (four_bytes x)))) (whole n) ∙ ap (λ (m : ℕ). Bop (page_counts n) (signed_of 4 m)) (whole x) ∙ ap (Bop (page_counts n)) is;
}

pub code_eop : IsCode (140 ∷ []) Eop
unfolding operation operand_size
code_eop = record { code = 140; operands = []; is = refl; own_code = refl; own_size = refl; size = λ rest. refl; reads = refl }

pub code_pre : IsCode (247 ∷ 2 ∷ 1 ∷ 131 ∷ 146 ∷ 192 ∷ 28 ∷ 59 ∷ 0 ∷ 0 ∷ 0 ∷ 0 ∷ 3 ∷ 232 ∷ 0 ∷ []) (Pre own_preamble)
unfolding operation operand_size
code_pre = record { code = 247; operands = 2 ∷ 1 ∷ 131 ∷ 146 ∷ 192 ∷ 28 ∷ 59 ∷ 0 ∷ 0 ∷ 0 ∷ 0 ∷ 3 ∷ 232 ∷ 0 ∷ []; is = refl; own_code = refl; own_size = refl; size = λ rest. refl; reads = refl }

two_whole : (n : ℕ) → 256 * (n / 256) + n % 256 ≡ n
two_whole n = omega arith

pub code_post : (x tallest widest pages : ℕ) (last : ℤ) → signed_of 4 x ≡ last
    → IsCode (248 ∷ four_bytes x ++ (1 ∷ 131 ∷ 146 ∷ 192 ∷ 28 ∷ 59 ∷ 0 ∷ 0 ∷ 0 ∷ 0 ∷ 3 ∷ 232 ∷ []) ++ four_bytes tallest ++ four_bytes widest ++ (0 ∷ 0 ∷ pages / 256 ∷ pages % 256 ∷ [])) (Post (own_postamble last tallest widest pages))
unfolding operation operand_size
code_post x tallest widest pages last is = record {
  code = 248;
  operands = four_bytes x ++ (1 ∷ 131 ∷ 146 ∷ 192 ∷ 28 ∷ 59 ∷ 0 ∷ 0 ∷ 0 ∷ 0 ∷ 3 ∷ 232 ∷ []) ++ four_bytes tallest ++ four_bytes widest ++ (0 ∷ 0 ∷ pages / 256 ∷ pages % 256 ∷ []);
  is = refl;
  own_code = refl;
  own_size = refl;
  size = λ rest. refl;
  reads = ap (λ (m : ℕ). Post (own_postamble (signed_of 4 m) (unsigned (four_bytes tallest)) (unsigned (four_bytes widest)) (256 * (pages / 256) + pages % 256))) (whole x)
      ∙ ap (λ (z : ℤ). Post (own_postamble z (unsigned (four_bytes tallest)) (unsigned (four_bytes widest)) (256 * (pages / 256) + pages % 256))) is
      ∙ ap (λ (m : ℕ). Post (own_postamble last m (unsigned (four_bytes widest)) (256 * (pages / 256) + pages % 256))) (whole tallest)
      ∙ ap (λ (m : ℕ). Post (own_postamble last tallest m (256 * (pages / 256) + pages % 256))) (whole widest)
      ∙ ap (λ (m : ℕ). Post (own_postamble last tallest widest m)) (two_whole pages);
}

pub code_post_post : (n : ℕ) → IsCode (249 ∷ four_bytes n ++ (2 ∷ [])) (PostPost n 2)
unfolding operation operand_size
code_post_post n = record { code = 249; operands = four_bytes n ++ (2 ∷ []); is = refl; own_code = refl; own_size = refl; size = λ rest. refl; reads = ap (λ (m : ℕ). PostPost m 2) (whole n) }

long_name : (name rest : List ℕ) → 15 + 0 + length name ≡ length (0 ∷ 0 ∷ 0 ∷ 0 ∷ 0 ∷ 0 ∷ 0 ∷ 0 ∷ 0 ∷ 0 ∷ 0 ∷ 0 ∷ 0 ∷ 0 ∷ 0 ∷ name)
long_name name rest = omega arith

pub code_define : (number checksum size design : ℕ) (name : List ℕ)
    → IsCode (243 ∷ number ∷ four_bytes checksum ++ four_bytes size ++ four_bytes design ++ (0 ∷ length name ∷ []) ++ name) (Define (record { number = number; checksum = checksum; size = size; design = design; area = []; name = name }))
unfolding operation operand_size
code_define number checksum size design name = record {
  code = 243;
  operands = number ∷ four_bytes checksum ++ four_bytes size ++ four_bytes design ++ (0 ∷ length name ∷ []) ++ name;
  is = refl;
  own_code = refl;
  own_size = omega arith;
  size = λ rest. long_name name rest;
  reads = ap (λ (m : ℕ). Define (record { number = number; checksum = m; size = unsigned (four_bytes size); design = unsigned (four_bytes design); area = []; name = name })) (whole checksum)
      ∙ ap (λ (m : ℕ). Define (record { number = number; checksum = checksum; size = m; design = unsigned (four_bytes design); area = []; name = name })) (whole size)
      ∙ ap (λ (m : ℕ). Define (record { number = number; checksum = checksum; size = size; design = m; area = []; name = name })) (whole design);
}

-- what is appended in pieces
pub emits_2 : (most : ℕ) (o0 o1 o2 a b : List ℕ) (op : Operation) → length a + length b ≤ most → o1 ≡ o0 ++ a → o2 ≡ o1 ++ b → IsCode (a ++ b) op → Emits most o0 o2 op
emits_2 most o0 o1 o2 a b op lt e1 e2 code = record { bytes = a ++ b; is = e2 ∙ ap (λ (l : List ℕ). l ++ b) e1 ∙ append_assoc o0 a b; code = code; long = omega (arith, length-append a b) }

pub emits_1 : (most : ℕ) (o0 o1 a : List ℕ) (op : Operation) → length a ≤ most → o1 ≡ o0 ++ a → IsCode a op → Emits most o0 o1 op
emits_1 most o0 o1 a op lt e1 code = record { bytes = a; is = e1; code = code; long = lt }

pub appends_2 : (o0 o1 o2 a b : List ℕ) → o1 ≡ o0 ++ a → o2 ≡ o1 ++ b → o2 ≡ o0 ++ (a ++ b)
appends_2 o0 o1 o2 a b e1 e2 = e2 ∙ ap (λ (l : List ℕ). l ++ b) e1 ∙ append_assoc o0 a b

pub emits_rule : (o0 o1 o2 o3 : List ℕ) (opcode x y : ℕ) (put : Bool) (height width : ℤ) → opcode ≡ (if put then 137 else 132) → o1 ≡ o0 ++ (opcode ∷ []) → o2 ≡ o1 ++ four_bytes x → o3 ≡ o2 ++ four_bytes y
    → signed_of 4 x ≡ height → signed_of 4 y ≡ width → Emits 9 o0 o3 (Rule put height width)
emits_rule o0 o1 o2 o3 opcode x y put height width code e1 e2 e3 h w =
    emits_2 9 o0 o2 o3 ((if put then 137 else 132) ∷ four_bytes x) (four_bytes y) (Rule put height width) (omega arith) (appends_2 o0 o1 o2 ((if put then 137 else 132) ∷ []) (four_bytes x) (e1 ∙ ap (λ (n : ℕ). o0 ++ (n ∷ [])) code) e2) e3 (code_rule put x y height width h w)

pub emits_bop : (o0 o1 o2 o3 o4 : List ℕ) (n x : ℕ) (last : ℤ) → o1 ≡ o0 ++ (139 ∷ []) → o2 ≡ o1 ++ four_bytes n → o3 ≡ o2 ++ zeros36 → o4 ≡ o3 ++ four_bytes x → signed_of 4 x ≡ last → Emits 45 o0 o4 (Bop (page_counts n) last)
emits_bop o0 o1 o2 o3 o4 n x last e1 e2 e3 e4 is =
    let a = appends_2 o0 o1 o2 (139 ∷ []) (four_bytes n) e1 e2 in
    let b = appends_2 o0 o2 o3 (139 ∷ four_bytes n) zeros36 a e3 in
    emits_2 45 o0 o3 o4 ((139 ∷ four_bytes n) ++ zeros36) (four_bytes x) (Bop (page_counts n) last) (omega arith) b e4 (code_bop n x last is)

pub emits_post_post : (o0 o1 o2 o3 : List ℕ) (n : ℕ) → o1 ≡ o0 ++ (249 ∷ []) → o2 ≡ o1 ++ four_bytes n → o3 ≡ o2 ++ (2 ∷ []) → Emits 6 o0 o3 (PostPost n 2)
emits_post_post o0 o1 o2 o3 n e1 e2 e3 = emits_2 6 o0 o2 o3 (249 ∷ four_bytes n) (2 ∷ []) (PostPost n 2) (omega arith) (appends_2 o0 o1 o2 (249 ∷ []) (four_bytes n) e1 e2) e3 (code_post_post n)

abbrev pub fixed12 : List ℕ
fixed12 = 1 ∷ 131 ∷ 146 ∷ 192 ∷ 28 ∷ 59 ∷ 0 ∷ 0 ∷ 0 ∷ 0 ∷ 3 ∷ 232 ∷ []

pub emits_post : (o0 o1 o2 o3 o4 o5 o6 : List ℕ) (x tallest widest pages : ℕ) (last : ℤ) → o1 ≡ o0 ++ (248 ∷ []) → o2 ≡ o1 ++ four_bytes x → o3 ≡ o2 ++ fixed12 → o4 ≡ o3 ++ four_bytes tallest → o5 ≡ o4 ++ four_bytes widest
    → o6 ≡ o5 ++ (0 ∷ 0 ∷ pages / 256 ∷ pages % 256 ∷ []) → signed_of 4 x ≡ last → Emits 29 o0 o6 (Post (own_postamble last tallest widest pages))
emits_post o0 o1 o2 o3 o4 o5 o6 x tallest widest pages last e1 e2 e3 e4 e5 e6 is =
    let a = appends_2 o0 o1 o2 (248 ∷ []) (four_bytes x) e1 e2 in
    let b = appends_2 o0 o2 o3 (248 ∷ four_bytes x) fixed12 a e3 in
    let d = appends_2 o0 o3 o4 ((248 ∷ four_bytes x) ++ fixed12) (four_bytes tallest) b e4 in
    let e = appends_2 o0 o4 o5 ((248 ∷ four_bytes x) ++ fixed12 ++ four_bytes tallest) (four_bytes widest) d e5 in
    emits_2 29 o0 o5 o6 ((248 ∷ four_bytes x) ++ fixed12 ++ four_bytes tallest ++ four_bytes widest) (0 ∷ 0 ∷ pages / 256 ∷ pages % 256 ∷ []) (Post (own_postamble last tallest widest pages)) (omega arith) e e6 (code_post x tallest widest pages last is)

-- a definition without an area
pub emits_definition : (old new : List ℕ) (d : Definition) → d.area ≡ [] → new ≡ old ++ definition_bytes d → length new ≤ length old + 80 → Emits 271 old new (Define d)
emits_definition old new d none is short =
    let plain : Definition = record { number = d.number; checksum = d.checksum; size = d.size; design = d.design; area = []; name = d.name } in
    let same : d ≡ plain = ap (λ (l : List ℕ). record { number = d.number; checksum = d.checksum; size = d.size; design = d.design; area = l; name = d.name }) none in
    let long : length new ≡ length old + length (definition_bytes d) = ap length is ∙ length-append old (definition_bytes d) in
    record {
      bytes = definition_bytes d;
      is = is;
      code = subst (λ (x : Definition). IsCode (definition_bytes x) (Define x)) (sym same) (code_define d.number d.checksum d.size d.design d.name);
      long = omega (arith, short, long);
    }

-- a number in two's complement
pub signed_twos : (x : ℤ) → FitsFourBytes x → signed_of 4 (twos_complement x) ≡ x
signed_twos (pos n) fits = low n fits where
  low : (n : ℕ) → n < 2147483648 → signed_of 4 n ≡ pos n
  low n lt = grind (arith, nat_tests)
signed_twos (negsuc n) fits = high n (omega (arith, ints, fits)) where
  high : (n : ℕ) → n < 2147483647 → signed_of 4 (4294967295 - n) ≡ negsuc n
  high n lt = grind (arith, nat_tests, ints)

-- a register is set by an operand of one to four bytes
pub emits_set_1 : (old new : List ℕ) (register : Register) (n x : ℕ) (by : ℤ) → x < 4294967296 → signed_of 4 x ≡ by → n ≡ least_size by → n ≡ 1 → new ≡ old ++ ((zero_code register + n) ∷ x % 256 ∷ []) → Emits 5 old new (Set register by)
emits_set_1 old new register n x by lt is least one e =
    emits_1 5 old new ((zero_code register + n) ∷ x % 256 ∷ []) (Set register by) (omega arith) e
    (code_set_register register n (x % 256 ∷ []) by least (sym one) (least_range by n least).0 (least_range by n least).1 (low_1 x by lt is (least_1 by n one least)))

pub emits_set_2 : (old new : List ℕ) (register : Register) (n x : ℕ) (by : ℤ) → x < 4294967296 → signed_of 4 x ≡ by → n ≡ least_size by → n ≡ 2 → new ≡ old ++ ((zero_code register + n) ∷ x / 256 % 256 ∷ x % 256 ∷ []) → Emits 5 old new (Set register by)
emits_set_2 old new register n x by lt is least two e =
    emits_1 5 old new ((zero_code register + n) ∷ x / 256 % 256 ∷ x % 256 ∷ []) (Set register by) (omega arith) e
    (code_set_register register n (x / 256 % 256 ∷ x % 256 ∷ []) by least (sym two) (least_range by n least).0 (least_range by n least).1 (low_2 x by lt is (least_2 by n two least)))

pub emits_set_3 : (old new : List ℕ) (register : Register) (n x : ℕ) (by : ℤ) → x < 4294967296 → signed_of 4 x ≡ by → n ≡ least_size by → n ≡ 3 → new ≡ old ++ ((zero_code register + n) ∷ x / 65536 % 256 ∷ x / 256 % 256 ∷ x % 256 ∷ []) → Emits 5 old new (Set register by)
emits_set_3 old new register n x by lt is least three e =
    emits_1 5 old new ((zero_code register + n) ∷ x / 65536 % 256 ∷ x / 256 % 256 ∷ x % 256 ∷ []) (Set register by) (omega arith) e
    (code_set_register register n (x / 65536 % 256 ∷ x / 256 % 256 ∷ x % 256 ∷ []) by least (sym three) (least_range by n least).0 (least_range by n least).1 (low_3 x by lt is (least_3 by n three least)))

pub emits_set_4 : (old new : List ℕ) (register : Register) (n x : ℕ) (by : ℤ) → signed_of 4 x ≡ by → n ≡ least_size by → n ≡ 4 → new ≡ old ++ ((zero_code register + n) ∷ four_bytes x) → Emits 5 old new (Set register by)
emits_set_4 old new register n x by is least four e =
    emits_1 5 old new ((zero_code register + n) ∷ four_bytes x) (Set register by) (omega arith) e
    (code_set_register register n (four_bytes x) by least (sym four) (least_range by n least).0 (least_range by n least).1 (ap (signed_of 4) (whole x) ∙ is))
