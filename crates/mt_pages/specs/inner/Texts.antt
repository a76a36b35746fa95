-- Texts to which pages are added: a listing (`IsListingOf`) and the counts of a summary (`AreCountsOf`).
use Rattle.std.specs.Prelude.{◌≡◌, ◌<◌, ◌+◌, ◌-◌, ◌^◌, List, length, count_by}
use Rattle.mt_box.specs.declared.place.Place.{Place}
use Rattle.mt_dvi.specs.WrittenPlaces.{all_places}
use Rattle.mt_pages.specs.Listing.{is_glyph_place, is_rule_place, pages_text}
use Rattle.mt_pages.specs.declared.listings.ListingText.{ListingText}
use Rattle.mt_pages.specs.declared.summaries.Counts.{Counts}

-- the text of these pages
pub record IsListingOf (pages : List (List Place)) (text : ListingText) : Type 0 where
  pub is : text.out.items ≡ pages_text 1 pages
  pub count : text.pages ≡ length pages

-- the numbers of these pages and of their glyphs and rules
pub record AreCountsOf (pages : List (List Place)) (counts : Counts) : Type 0 where
  pub count : counts.pages ≡ length pages
  pub glyphs : counts.glyphs ≡ count_by is_glyph_place (all_places pages)
  pub rules : counts.rules ≡ count_by is_rule_place (all_places pages)

-- one page more can be counted
pub record HasRoom (counts : Counts) : Type 0 where
  pub pages : counts.pages < 2 ^ 64 - 1
  pub glyphs : counts.glyphs < 2 ^ 128 - 2 ^ 64
  pub rules : counts.rules < 2 ^ 128 - 2 ^ 64

-- a page has fewer than 2^64 places
pub record GrowsByPage (old new : Counts) : Type 0 where
  pub glyphs : new.glyphs < old.glyphs + 2 ^ 64
  pub rules : new.rules < old.rules + 2 ^ 64
