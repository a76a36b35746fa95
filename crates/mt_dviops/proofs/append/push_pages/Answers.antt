use Rattle.std.proofs.Common.{[], sym, subst, arith}
use Rattle.std.proofs.lemmas.List.{append-nil}
use Rattle.mt_dviops.specs.Source.{empty_source}
use Rattle.mt_dviops.specs.inner.Shown.{AreShown}
use Rattle.mt_dviops.proofs.HeldPages.{held_long}
use Rattle.mt_dviops.proofs.Joining.{file_next, file_whole}
use Rattle.mt_dviops.proofs.append.push_pages.Goals as goal

pub loop-k-init : goal.loop-k-init
loop-k-init c = λ fonts file pages holds are. subst (AreShown fonts _) (sym (append-nil pages)) are

pub loop-k-preserved : goal.loop-k-preserved
loop-k-preserved c = λ fonts file pages holds are.
    let n = held_long fonts _ _ _ file.pages holds.pages in
    file_next fonts _ _ pages file.pages c.loop-k.k _ (omega (arith, n, c.loop-k-test.true, c.len-k-end.ensures)) (c.loop-k.invariant fonts file pages holds are) (c.page.ensures fonts file (empty_source []) holds) c.in_ok-push.ensures.items

pub returns : goal.returns
returns c = λ fonts file pages holds are.
    let n = held_long fonts _ _ _ file.pages holds.pages in
    file_whole fonts _ pages file.pages c.loop-k.k (omega (arith, n, c.loop-k-test.false, c.len-k-end.ensures)) (c.loop-k.invariant fonts file pages holds are)
