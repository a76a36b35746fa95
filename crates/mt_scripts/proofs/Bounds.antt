-- Bounds on what scripts reach.
use Rattle.std.proofs.Common.{◌≤◌, ◌^◌, ℕ, ℤ, Option, arith, lit≤, w64, to_z, of_z}
use Rattle.std.specs.Option.{ForSome}
use Rattle.std.proofs.lemmas.Int.{ints}
use Rattle.mt_scaled.specs.Number.{Within, max_dimen}
use Rattle.mt_box.specs.declared.extents.Extents.{Extents}
use Rattle.mt_box.specs.Extents.{ExtentsInRange}
use Rattle.mt_scripts.specs.Reaches.{ReachesWithin}

reaches_in_range : (n : ℕ) (e : Extents) → max_dimen ≤ n → ExtentsInRange e → ReachesWithin n e
reaches_in_range n e l h = record {
  height = record { low = omega (arith, ints, l, h.height.low); high = omega (arith, ints, l, h.height.high) };
  depth = record { low = omega (arith, ints, l, h.depth.low); high = omega (arith, ints, l, h.depth.high) };
}

-- a box in range, if there is one
pub script_reaches : (o : Option Extents) → ForSome o ExtentsInRange → ForSome o (λ e. ReachesWithin (2 ^ 41) e)
script_reaches o h e p = reaches_in_range (2 ^ 41) e (lit≤ tt) (h e p)

pub script_near : (o : Option Extents) → ForSome o ExtentsInRange → ForSome o (λ e. ReachesWithin (2 ^ 33) e)
script_near o h e p = reaches_in_range (2 ^ 33) e (lit≤ tt) (h e p)

-- a moderate raise is at most 2^40 in size
pub raise_wide : (x : ℤ) → Within (2 ^ 38) x → Within (2 ^ 40) (to_z w64 (of_z w64 x))
raise_wide x h = record { low = omega (arith, ints, h.low, h.high); high = omega (arith, ints, h.low, h.high) }
