use Rattle.std.proofs.Common.{◌-◌, map}
use Rattle.mt_tables.specs.inner.KeptMacros.{name_at}
use Rattle.mt_tables.proofs.Searching.{Searching}
use Rattle.mt_tables.proofs.places.place_of.Given as goal

abbrev pub invariant-loop-low : goal.invariant-loop-low
invariant-loop-low l = Searching (map (name_at l.names) l.order) l.name l.low l.high

abbrev pub decreases-loop-low : goal.decreases-loop-low
decreases-loop-low l = l.high - l.low
