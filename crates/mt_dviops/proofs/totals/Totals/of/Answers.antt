use Rattle.std.proofs.Common.{refl, ◌∙◌, ap, List, arith}
use Rattle.mt_dviops.specs.declared.page.PageCopy.{PageCopy}
use Rattle.mt_dviops.specs.inner.Shown.{all_told, pages_length}
use Rattle.mt_dviops.proofs.PageTotals.{long_next, take_copies, total_none, totals_next, totals_whole}
use Rattle.mt_dviops.proofs.totals.Totals.of.Goals as goal

pub loop-page-init : goal.loop-page-init
loop-page-init c = record {
  is = λ fonts shown are. total_none fonts;
  long = refl;
  bytes = omega arith;
  places = omega arith;
}

pub loop-page-preserved : goal.loop-page-preserved
loop-page-preserved c = record {
  is = λ fonts shown are. totals_next fonts _ _ c.args.pages.now shown c.loop-page.page-index _ are c.loop-page-test.true (c.loop-page.invariant.is fonts shown are) c.include.ensures.is;
  long = long_next _ _ c.args.pages.now c.loop-page.page-index _ c.loop-page-test.true c.loop-page.invariant.long c.include.ensures.is;
  bytes = omega (arith, c.loop-page.invariant.bytes, c.include.ensures.bytes);
  places = omega (arith, c.loop-page.invariant.places, c.include.ensures.places);
}

pub returns-clause-is : goal.returns-clause-is
returns-clause-is c = λ fonts shown are. totals_whole fonts _ c.args.pages.now shown c.loop-page.page-index are c.loop-page-test.false (c.loop-page.invariant.is fonts shown are)

pub returns-clause-bytes : goal.returns-clause-bytes
returns-clause-bytes c = c.loop-page.invariant.long ∙ ap (λ (l : List PageCopy). pages_length (all_told l)) (take_copies c.args.pages.now c.loop-page.page-index c.loop-page-test.false)
