use Rattle.mt_plain.proofs.Loading.{loading_none, loading_one, loading_all, body_at}
use Rattle.mt_plain.proofs.macros.preload_all.Goals as goal

pub loop-text-init : goal.loop-text-init
loop-text-init c = loading_none _ _

pub preload-requires : goal.preload-requires
preload-requires c = body_at c.args.list.now c.loop-text.text-index _ c.loop-text-test.true c.requires

pub loop-text-preserved : goal.loop-text-preserved
loop-text-preserved c = loading_one _ c.loop-text.macros _ c.args.list.now _ _ c.loop-text.invariant c.loop-text-test.true c.in_ok-preload.ensures

pub returns : goal.returns
returns c = loading_all _ _ _ _ c.loop-text.invariant c.loop-text-test.false
