-- definitions of macros
pub mod Definitions
-- assignments of codes
pub mod Assignments
-- where a formula ends
pub mod Dollars
-- documents
pub mod Documents
-- the most tokens and pages of a document
pub mod Limits
-- the document of a source
pub mod Sources
-- the numbers of causes outside of formulas
pub mod Causes
-- what a source is answered
pub mod Refusals
-- how many formulas a document has
pub mod Weights
-- where the numbers of its formulas are
pub mod Tags
-- the names of control sequences
pub mod Naming
-- items that are lent
pub mod Lent
-- what a turn leaves
pub mod DocumentTurns
-- what contracts see of what has been read
pub mod Views
-- the faults of a source whose rest is read
pub mod SourceFaults
-- documents that are read page by page
pub mod SourceReading
pub mod PageReading
-- where the reading of a source stops
pub mod Stops
pub mod StopReading
-- a document that is cut at the end of a page
pub mod Cuts
-- a turn, whatever tokens are behind those that it is taken from
pub mod AheadTurns
-- how many items it leaves
pub mod CountedTurns
-- what counts no turns is read or at fault
pub mod Answered
-- formulas whose lists are in an arena
pub mod ArenaPages
-- what the fields of `ArenaPage` are seen as: only the type cites it
pub mod inner
