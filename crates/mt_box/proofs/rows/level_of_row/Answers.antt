use Rattle.std.proofs.Common.{arith, drop, sym, subst}
use Rattle.mt_box.specs.Rows.{AllModest}
use Rattle.mt_box.proofs.Packing.{level_high, level_low}
use Rattle.mt_box.proofs.rows.level_of_row.Goals as goal

pub returns-clause-small : goal.returns-clause-small
returns-clause-small c = omega (arith, c.loop-i.invariant.level, level_high c.loop-i.i c.as_slice-pieces.result.now (subst AllModest (sym c.as_slice-pieces.ensures) c.requires))

pub returns-clause-low : goal.returns-clause-low
returns-clause-low c = omega (arith, c.loop-i.invariant.level, level_low (drop c.loop-i.i c.as_slice-pieces.result.now))
