use Rattle.std.proofs.Common.{◌∙◌, arith, sym}
use Rattle.std.proofs.lemmas.List.{drop_more}
use Rattle.mt_pieces.proofs.Gapped.{lead_step}
use Rattle.mt_pieces.proofs.gaps.lead_of.Goals as goal

pub loop-run-preserved : goal.loop-run-preserved
loop-run-preserved c =
    let i = c.loop-run.invariant in (
      omega (arith, i.0),
      lead_step c.args.runs.now c.args.first c.args.end _ _ _ c.loop-run.lead.start _ i.1 (drop_more c.args.runs.now c.loop-run.run-index _ c.loop-run-test.true) (sym c.is_none.ensures ∙ c.if-not-is_none.false) c.end_of_run.ensures,
    )
