use Rattle.mt_delim.proofs.Runs.{testing_start, testing_there, testing_out, testing_on, no_run, item_of}
use Rattle.mt_delim.proofs.extensible.first_glyph_out.Goals as goal

pub loop-run-init : goal.loop-run-init
loop-run-init c = testing_start _ _ c.requires

pub run_out-out-requires : goal.run_out-out-requires
run_out-out-requires c = testing_there _ _ _ _ _ c.loop-run.invariant (item_of c.args.runs.now c.loop-run.run-index no_run c.loop-run-test.true)

pub returns-then-is_some : goal.returns-then-is_some
returns-then-is_some c = testing_out _ _ _ _ _ c.run_out-out.result _ c.loop-run.invariant (item_of c.args.runs.now c.loop-run.run-index no_run c.loop-run-test.true) c.run_out-out.ensures c.is_some.ensures c.if-is_some.true

pub loop-run-preserved : goal.loop-run-preserved
loop-run-preserved c = testing_on _ _ _ _ _ c.run_out-out.result _ c.loop-run.invariant (item_of c.args.runs.now c.loop-run.run-index no_run c.loop-run-test.true) c.run_out-out.ensures c.is_some.ensures c.if-is_some.false
