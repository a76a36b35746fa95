use Rattle.std.proofs.Common.{refl}
use Rattle.mt_pages.proofs.ListingLemmas.{listing_more, on_ok}
use Rattle.mt_pages.proofs.listings.ListingText.add_page.Goals as goal

pub returns : goal.returns
returns c = λ pages is. on_ok c.push_page.result (λ text. listing_more pages c.args.page.now c.args.self.now _ is refl text) c.push_page.ensures
