use Rattle.std.proofs.Common.{List, ◌∙◌, subst}
use Rattle.mt_pages.proofs.Common.{Place}
use Rattle.mt_pages.specs.inner.Texts.{IsListingOf}
use Rattle.mt_pages.proofs.ListingLemmas.{all_taken, taken}
use Rattle.mt_pages.proofs.listings.listing.Goals as goal

pub loop-page-preserved : goal.loop-page-preserved
loop-page-preserved c =
    taken (λ (pages : List (List Place)). IsListingOf pages c.add_page.new.self) c.as_slice-pages.result.now c.loop-page.page-index c.page-item.result c.as_slice.result.now c.loop-page-test.true (c.as_slice.ensures ∙ c.page-item.is)
    (c.in_ok-add_page.ensures _ c.loop-page.invariant)

pub returns : goal.returns
returns c =
    let all = all_taken (λ (pages : List (List Place)). IsListingOf pages c.loop-page.text) c.as_slice-pages.result.now c.loop-page.page-index c.loop-page-test.false c.loop-page.invariant in
    c.finish.ensures c.args.pages.now (subst (λ (pages : List (List Place)). IsListingOf pages c.loop-page.text) c.as_slice-pages.ensures all)
