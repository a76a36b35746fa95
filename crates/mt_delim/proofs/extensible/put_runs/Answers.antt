use Rattle.mt_delim.proofs.Runs.{no_run, item_of}
use Rattle.mt_delim.proofs.PutGlyphs.{runs_start, next_fits, runs_step}
use Rattle.mt_delim.proofs.extensible.put_runs.Goals as goal

pub loop-run-init : goal.loop-run-init
loop-run-init c = runs_start _ _ _ _ _ _ c.negated-depth.ensures c.requires.there c.requires.few c.requires.count c.requires.height

pub put_run-requires-clause-there : goal.put_run-requires-clause-there
put_run-requires-clause-there c = (next_fits _ _ _ _ _ _ _ _ _ _ _ c.loop-run.invariant (item_of c.args.runs.now c.loop-run.run-index no_run c.loop-run-test.true)).there

pub loop-run-preserved : goal.loop-run-preserved
loop-run-preserved c =
    runs_step _ _ _ _ _ _ _ _ _ _ _ _ _ c.loop-run.invariant (item_of c.args.runs.now c.loop-run.run-index no_run c.loop-run-test.true)
    c.in_ok-depth.ensures.marks c.in_ok-depth.ensures.depth c.in_ok-depth.ensures.near
