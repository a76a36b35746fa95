use Rattle.mt_dviops.proofs.Joining.{all_next, all_whole}
use Rattle.mt_dviops.proofs.Selecting.{none_picked}
use Rattle.mt_dviops.proofs.append.pages_of.Goals as goal

pub loop-source-init : goal.loop-source-init
loop-source-init c = λ fonts files all. none_picked fonts _ c.new-chosen.ensures.items

pub loop-source-preserved : goal.loop-source-preserved
loop-source-preserved c = λ fonts files all.
    all_next fonts c.args.sources.now files c.loop-source.source-index c.source-item.result _ _ all c.loop-source-test.true c.source-item.is (c.loop-source.invariant fonts files all) (c.in_ok-push_pages.ensures fonts)

pub returns : goal.returns
returns c = λ fonts files all.
    all_whole fonts c.args.sources.now files c.loop-source.source-index _ all c.loop-source-test.false (c.loop-source.invariant fonts files all)
