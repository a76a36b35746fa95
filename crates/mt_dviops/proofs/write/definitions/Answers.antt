use Rattle.std.proofs.Common.{arith}
use Rattle.mt_dviops.specs.inner.Shown.{has_selected}
use Rattle.mt_dviops.proofs.DefinedBytes.{defined_next}
use Rattle.mt_dviops.proofs.write.definitions.Goals as goal

pub loop-n-preserved : goal.loop-n-preserved
loop-n-preserved c = record {
  is = defined_next c.args.fonts.now (has_selected c.args.selected) c.loop-n.n _ _ c.loop-n.invariant.is c.in_ok-define_selected.ensures.is;
  short = omega (arith, c.loop-n.invariant.short, c.in_ok-define_selected.ensures.short);
}
