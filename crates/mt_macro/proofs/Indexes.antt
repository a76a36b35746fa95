-- Indexes in a list whose first tokens are passed.
use Rattle.std.proofs.Common.{◌≡◌, ℕ, ◌+◌, refl, ap, arith}
use Rattle.std.specs.Prelude.{Option, Some, None}
use Rattle.std.specs.Option.{option_map}
use Rattle.mt_macro.specs.Braces.{index_after_first}

abbrev pub shifted : ℕ → Option ℕ → Option ℕ
shifted at index = option_map (λ (p : ℕ). p + at) index

pub shifted_none : (index : Option ℕ) → index ≡ shifted 0 index
shifted_none None = refl
shifted_none (Some p) = ap Some (let e : p ≡ p + 0 = omega arith in e)

pub shifted_next : (at : ℕ) (index : Option ℕ) → shifted at (index_after_first index) ≡ shifted (at + 1) index
shifted_next at None = refl
shifted_next at (Some p) = ap Some (let e : p + 1 + at ≡ p + (at + 1) = omega arith in e)

pub shifted_here : (at : ℕ) → shifted at (Some 0) ≡ Some at
shifted_here at = ap Some (let e : 0 + at ≡ at = omega arith in e)
