use Rattle.std.proofs.Common.{arith, drop, sym, subst}
use Rattle.mt_box.specs.Columns.{AllModestEntries}
use Rattle.mt_box.proofs.Stacking.{level_high, level_low, modest_at}
use Rattle.mt_box.proofs.columns.shape_of.Goals as goal

pub entry_width-requires : goal.entry_width-requires
entry_width-requires c = record { modest = rw (c.index-entries-i.is) (modest_at c.as_slice-entries.result.now _ _ (subst AllModestEntries (sym c.as_slice-entries.ensures) c.requires) (omega (arith, c.loop-i.invariant.within, c.loop-i-test.true))) }

pub returns-clause-small : goal.returns-clause-small
returns-clause-small c = omega (arith, c.loop-i.invariant.level, level_high c.loop-i.i c.as_slice-entries.result.now (subst AllModestEntries (sym c.as_slice-entries.ensures) c.requires))

pub returns-clause-low : goal.returns-clause-low
returns-clause-low c = omega (arith, c.loop-i.invariant.level, level_low (drop c.loop-i.i c.as_slice-entries.result.now))
