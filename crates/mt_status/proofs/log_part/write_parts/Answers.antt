use Rattle.std.proofs.Common.{◌∙◌, refl, arith}
use Rattle.mt_status.proofs.LogPartLemmas.{start, more, part, gets}
use Rattle.mt_status.proofs.log_part.write_parts.Goals as goal

pub loop-part-init : goal.loop-part-init
loop-part-init g c = record { told = start _ _ _ (search); same = refl }

pub loop-part-preserved : goal.loop-part-preserved
loop-part-preserved g c = record {
  told = more _ _ _ _ _ _ _ _ c.loop-part-test.true c.loop-part.invariant.told c.in-Ok.ensures.gathers;
  same = c.in-Ok.ensures.leaves ∙ c.loop-part.invariant.same;
}

pub returns-in-Err : goal.returns-in-Err
returns-in-Err g c = record {
  whole = λ steady. absurd (omega (arith, c.in-Err.ensures.leaves.1, c.loop-part.invariant.same));
  part = part _ _ _ _ _ _ _ c.loop-part-test.true c.loop-part.invariant.told c.in-Err.ensures.front;
}

pub returns : goal.returns
returns g c = gets _ _ _ _ _ _ _ _ _ _ c.as_slice.ensures.value c.loop-part-test.false c.loop-part.invariant.told c.loop-part.invariant.same c.write_all.ensures.appended c.write_all.ensures.leaves
