use Rattle.std.proofs.Common.{◌≡◌, List, length, take, ◌∙◌, subst, arith}
use Rattle.mt_pages.proofs.Common.{length-take-le, Place}
use Rattle.mt_pages.specs.inner.Texts.{AreCountsOf}
use Rattle.mt_pages.proofs.ListingLemmas.{all_taken, taken}
use Rattle.mt_pages.proofs.summaries.summary.Goals as goal

pub add_page-requires : goal.add_page-requires
add_page-requires c =
    let count : length (take c.loop-page.page-index c.as_slice-pages.result.now) ≡ c.loop-page.page-index = length-take-le c.loop-page.page-index c.as_slice-pages.result.now (omega (arith, c.loop-page-test.true)) in
    record {
      pages = omega (arith, c.loop-page.invariant.counted.count, count, c.loop-page-test.true);
      glyphs = omega (arith, c.loop-page.invariant.glyphs, c.loop-page-test.true);
      rules = omega (arith, c.loop-page.invariant.rules, c.loop-page-test.true);
    }

pub loop-page-preserved : goal.loop-page-preserved
loop-page-preserved c = record {
  counted =
      taken (λ (pages : List (List Place)). AreCountsOf pages c.add_page.new.self) c.as_slice-pages.result.now c.loop-page.page-index c.page-item.result c.as_slice.result.now c.loop-page-test.true (c.as_slice.ensures ∙ c.page-item.is)
      (c.add_page.ensures.counts _ c.loop-page.invariant.counted);
  glyphs = omega (arith, c.loop-page.invariant.glyphs, c.add_page.ensures.grows.glyphs);
  rules = omega (arith, c.loop-page.invariant.rules, c.add_page.ensures.grows.rules);
}

pub returns : goal.returns
returns c =
    let all = all_taken (λ (pages : List (List Place)). AreCountsOf pages c.loop-page.counts) c.as_slice-pages.result.now c.loop-page.page-index c.loop-page-test.false c.loop-page.invariant.counted in
    c.text.ensures c.args.pages.now (subst (λ (pages : List (List Place)). AreCountsOf pages c.loop-page.counts) c.as_slice-pages.ensures all)
