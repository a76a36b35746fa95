-- the names that most proofs cite
mod Common
-- the clean box of a character
pub mod CleanGlyphs
-- the row of an atom alone
pub mod LoneAtoms
-- the list of a choice
mod Choosing
-- lists made part by part
pub mod Appending
-- boxes of boundaries
pub mod Boundaries
-- items whose pieces are on a stack
pub mod PlacedValues
-- their rows put on a stack, and taken from one
pub mod PutRows
pub mod TakenRows
-- the second pass, item by item
pub mod SecondPass
-- how many pieces a row has
pub mod FewPieces
-- the second pass over a list with its rows
pub mod Wrapping
-- rows whose glyphs exist and whose rules mark something
pub mod holds
-- as many turns as a list holds are enough for its flat list
mod Flattening
-- what a turn leaves
pub mod Turning
-- boundaries stay at the ends
pub mod Remaining
-- classes settled from the right
pub mod Settling
-- what an item is set to
mod ItemsSet
-- neighbours while a list is set
pub mod Following
-- items set in order
pub mod InOrder
-- what a thing of an arena is
pub mod ThingKinds
-- the first pass, turn by turn
pub mod Going
-- both passes
pub mod BothPasses
-- the list of one atom alone
pub mod LoneLists
-- the list of one ordinary symbol alone
pub mod LoneSymbols
-- whole lists in the toy fonts, worked
mod cases
-- atoms of each kind, and fractions
pub mod kinds
-- rows and boxes behind the pieces that are there
pub mod Behind
-- rows behind the pieces that were there
pub mod RowsOn
-- nuclei behind them
pub mod NucleiOn
-- lists without boundaries as runs of pieces
pub mod Runs
