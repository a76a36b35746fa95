use Rattle.std.proofs.Common.{take}
use Rattle.mt_pages.specs.inner.Texts.{IsListingOf}
use Rattle.mt_pages.proofs.listings.listing.Given as goal

abbrev pub invariant-loop-page : goal.invariant-loop-page
invariant-loop-page l = IsListingOf (take l.page-index l.pages) l.text
