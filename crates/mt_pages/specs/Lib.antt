-- a source set in its fonts
pub mod Typeset
-- the document of a source
pub mod Documents
-- the lines of a formula
pub mod FormulaLines
-- the pages of a source
pub mod Pages
-- what is made of the pages of a source
pub mod Output
-- how wide a line may be
pub mod LineWidth
-- pages as a text
pub mod Listing
-- of lines and places: only inner contracts cite it
pub mod inner
-- a source that is cut
pub mod Cuts
