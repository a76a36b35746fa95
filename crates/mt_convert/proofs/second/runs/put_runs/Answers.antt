use Rattle.std.proofs.Common.{arith, drop}
use Rattle.mt_convert.proofs.Common.{drop_all, drop_more}
use Rattle.mt_convert.proofs.Runs.{runs_put, runs_start, runs_step}
use Rattle.mt_convert.proofs.second.runs.put_runs.Goals as goal

pub loop-item-init : goal.loop-item-init
loop-item-init c =
    runs_start c.args.fonts.now c.args.style c.args.items.now c.opening-current.result (drop c.args.first c.args.pieces.now) c.take_runs-runs.result.items c.requires.placed c.opening-current.ensures c.take_runs-runs.ensures.is

pub loop-item-preserved : goal.loop-item-preserved
loop-item-preserved c =
    runs_step _ _ _ c.loop-item.current c.after_half-current.result _ c.loop-item.runs.items c.push.new.self.items _ c.run_of.result _ c.loop-item.invariant (drop_more c.args.items.now c.loop-item.item-index _ c.loop-item-test.true)
    c.run_of.ensures.is c.run_of.ensures.fits c.in_ok-push.ensures.items c.after_half-current.ensures

pub returns : goal.returns
returns c =
    runs_put c.put_gaps.result c.args.fonts.now c.args.style c.args.items.now c.args.first c.args.pieces.now c.take_runs-runs.new.self c.put_gaps.new.self c.loop-item.current _ c.loop-item.runs.items c.loop-item.invariant
    (drop_all c.loop-item.item-index c.args.items.now (omega (arith, c.loop-item-test.false))) c.requires.inside c.requires.placed c.take_runs-runs.ensures.same c.put_gaps.ensures
