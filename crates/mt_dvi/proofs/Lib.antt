-- worked files, evaluated by the definition of the format
mod SampleFiles
mod MutatedFiles
mod LeanFiles
mod FilesNotLean
-- which sentences on lean files hold of a file
pub mod Sentences
-- which bytes are which operation
pub mod CodeLemmas
-- the pieces of pre and of a definition
pub mod Pieces
-- one operation more leads to the next state
pub mod Prefix
-- the opcodes of a page so far
pub mod LeanLemmas
-- moves across and downward
pub mod MoveLemmas
-- definitions and selections of fonts
pub mod FontLemmas
-- the first bytes of a row
pub mod RowLemmas
-- one place: a glyph or a rule
pub mod PlaceLemmas
-- the places of a page
pub mod PagePlaces
-- a page, and the pages with one page more
pub mod PageLemmas
-- at most 48 fonts are defined
pub mod DistinctLemmas
-- each font that is used is defined once
pub mod UsedFonts
-- the definitions after post
pub mod AfterPages
-- the greatest edge
pub mod Greatest
-- a file so far, to which pages are added
pub mod FileLemmas
-- a file from its first byte to its last
pub mod WholeFile
