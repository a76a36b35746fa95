-- Fonts as bits of a number (`union_bits`, `with_bit`).
use Rattle.std.proofs.Common.{◌≡◌, ℕ, zero, suc, ◌*◌, ◌%◌, ◌^◌, ◌<◌, refl, ◌∙◌, ap, arith, w64}
use Rattle.std.specs.Prelude.{max, Bool, true, false, ◌==◌, ◌||◌, bit_or}
use Rattle.std.specs.Int.{bit_at}
use Rattle.std.proofs.lemmas.Bool.Decides.{nat_tests}
use Rattle.std.proofs.lemmas.Nat.Bits.{bit_at-lt, bit_at_or, bit_at_set_other, bit_at_set_same}

either : (x y : ℕ) → x < 2 → y < 2 → (max x y == 1) ≡ (x == 1 || y == 1)
either zero zero p q = refl
either zero (suc zero) p q = refl
either (suc zero) zero p q = refl
either (suc zero) (suc zero) p q = refl
either (suc (suc x)) y p q = absurd (omega arith)
either x (suc (suc y)) p q = absurd (omega arith)

pub union_bits : (a b n : ℕ) → (bit_at (bit_or a b) n == 1) ≡ (bit_at a n == 1 || bit_at b n == 1)
union_bits a b n = ap (λ (k : ℕ). k == 1) (bit_at_or a b n) ∙ either (bit_at a n) (bit_at b n) (bit_at-lt a n) (bit_at-lt b n)

pub with_bit : (bits n m : ℕ) → n < 48 → (bit_at (bit_or bits (1 * 2 ^ n % 18446744073709551616)) m == 1) ≡ (m == n || bit_at bits m == 1)
with_bit bits n m low = by_test (m == n) refl where
  same : (m : ℕ) → m ≡ n → (bit_at (bit_or bits (1 * 2 ^ n % 18446744073709551616)) m == 1) ≡ true
  same m e = rw e (ap (λ (k : ℕ). k == 1) (bit_at_set_same w64 bits n (omega (arith, low))))

  other : (m == n) ≡ false → bit_at (bit_or bits (1 * 2 ^ n % 18446744073709551616)) m ≡ bit_at bits m
  other ne = bit_at_set_other w64 bits n (omega (arith, low)) m (λ e. absurd (grind (arith, nat_tests)))

  by_test : (b : Bool) → (m == n) ≡ b → (bit_at (bit_or bits (1 * 2 ^ n % 18446744073709551616)) m == 1) ≡ (m == n || bit_at bits m == 1)
  by_test true e = let s : m ≡ n = grind (arith, nat_tests) in rw e (same m s)
  by_test false e = rw e (ap (λ (k : ℕ). k == 1) (other e))
