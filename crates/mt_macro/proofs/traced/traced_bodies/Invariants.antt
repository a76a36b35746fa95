use Rattle.std.proofs.Common.{◌≤◌, ◌-◌, length, take}
use Rattle.mt_macro.specs.inner.Tracing.{AreTraced}
use Rattle.mt_macro.proofs.traced.traced_bodies.Given as goal

abbrev pub invariant-loop-number : goal.invariant-loop-number
invariant-loop-number l = record {
  traced : AreTraced (take l.number l.macros) l.bodies.items;
  within : l.number ≤ length l.macros;
}

abbrev pub decreases-loop-number : goal.decreases-loop-number
decreases-loop-number l = length l.macros - l.number
