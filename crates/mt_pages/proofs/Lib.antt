-- the names that most proofs cite
mod Common
-- the lines of a formula
pub mod LineLemmas
-- the places of a page
pub mod PageLemmas
-- the rows of a display of several lines
pub mod DisplayLemmas
-- the pages of a document, one after another
pub mod DocumentLemmas
-- pages that are set and placed one after another
pub mod SetLemmas
-- the places of a document that is cut
mod CutPlaces
-- the pages of a source that is cut
pub mod CutSet
-- a source that is cut, worked
mod CutWorked
-- the formula that has the first place too many
pub mod OverfullLemmas
-- small sources
mod Worked
-- lines of the listing, one after another
pub mod ListingLemmas
-- small pages as texts
mod ListingWorked
-- each brace of a formula has its partner
pub mod Balanced
-- a source that is not read is refused for a reason
pub mod DocumentRefusals
-- and one that is not set
pub mod PageRefusals
