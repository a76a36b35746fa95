use Rattle.std.proofs.Common.{◌∙◌, sym}
use Rattle.mt_delim.proofs.Runs.{seeking_step, seeking_found, no_run, item_of}
use Rattle.mt_delim.proofs.extensible.first_height.Goals as goal

pub loop-run-preserved : goal.loop-run-preserved
loop-run-preserved c = seeking_step _ _ _ _ _ c.loop-run.invariant (item_of c.args.runs.now c.loop-run.run-index no_run c.loop-run-test.true) (sym c.in_default.ensures)

pub height_of_glyph-requires : goal.height_of_glyph-requires
height_of_glyph-requires c = (seeking_found _ _ _ _ _ _ c.loop-run.invariant (item_of c.args.runs.now c.loop-run.run-index no_run c.loop-run-test.true) (sym c.in-Some.ensures)).0

pub returns-in-Some-clause-is : goal.returns-in-Some-clause-is
returns-in-Some-clause-is c = c.height_of_glyph.ensures.is ∙ (seeking_found _ _ _ _ _ _ c.loop-run.invariant (item_of c.args.runs.now c.loop-run.run-index no_run c.loop-run-test.true) (sym c.in-Some.ensures)).1
