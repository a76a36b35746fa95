-- tokens up to one that ends them
mod Cutting
-- the braces of a formula have their partners
mod Matched
-- definitions, a parameter at a time
mod Defining
-- how long an expanded list is
mod Expanding
-- what does not depend on the pages before
mod PagesMoved
-- what becomes of what was read, turn by turn
mod DocumentLoop
-- tokens with more tokens behind them
mod Locality
-- a turn by tokens with more behind them
mod Ahead
-- what a turn leaves are the last tokens
mod Ending
-- the words behind the first one
mod SourceViews
-- words that are read ahead
mod AheadWords
-- what becomes of a reader, word by word
mod SourceLoop
-- more words are read
mod SourceMore
-- what a turn leaves, counted
mod CountedTurning
-- what becomes of a formula
mod Turning
-- the bounds within which a reader reads on
mod Going
-- what holds of each formula of a document
mod DocumentFormulas
-- the document of a source, by its tokens or its fault
mod SourceDocuments
-- how many pages a document has
mod Pages
-- the tokens of a source
mod Sourcing
-- what worked documents are written with
mod DocumentWriting
-- worked documents, and documents at fault
mod DocumentCases
mod DocumentFaults
-- what is read again with other tokens behind it
mod Fronts
-- a turn of a document that is cut
mod CutTurns
-- a document that is cut
mod CutPages
-- a part without the page's end behind it
mod CutBack
-- the definitions and assignments of a part of a document
mod CutTables
-- a source that is cut
pub mod CutSources
-- tokens are a document or it is refused
mod Deciding
-- the turns of a document are always enough
pub mod Falling
-- formulas of an arena, seen when more lists are in it
mod PagesLater
-- where reading stops, turn by turn
mod Stopping
