use Rattle.std.proofs.Common.{rules}
use Rattle.mt_box.proofs.Flat.{places_unfolded, flat_nested, flat_marks}
use Rattle.mt_box.proofs.packed.Packed.nodes.Goals as goal

pub returns-clause-places : goal.returns-clause-places
returns-clause-places c = let e = places_unfolded _ _ c.self.invariant.flat in search (rules, e)

pub returns-clause-nested : goal.returns-clause-nested
returns-clause-nested c = let e = flat_nested _ _ c.self.invariant.flat in search (rules, e)

pub returns-clause-marks : goal.returns-clause-marks
returns-clause-marks c = let e = flat_marks _ _ _ c.self.invariant.flat in search (rules, e)
