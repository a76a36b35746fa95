use Rattle.std.proofs.Common.{◌∙◌}
use Rattle.mt_pages.proofs.ListingLemmas.{listing_ends}
use Rattle.mt_pages.proofs.listings.ListingText.finish.Goals as goal

pub returns : goal.returns
returns c = λ pages is. listing_ends pages c.args.self _ is (c.from_vec.ensures ∙ c.in_ok-push_number_line.ensures)
