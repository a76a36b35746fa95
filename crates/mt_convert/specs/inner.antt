-- lists that are made part by part
pub mod Appending
-- what an item, a part and a table of a modest list keep
pub mod Modest
-- the fields of atoms and fractions
pub mod Fields
-- one turn on a list of the code
pub mod Turns
-- one turn on a list in an arena
pub mod Spans
-- where boundaries are in what is left of a list
pub mod Boundaries
-- the cells of a table that have a column
pub mod Tables
-- the clean box of a character
pub mod Glyphs
-- lists of one atom alone
pub mod LoneAtoms
-- the kern of a joined pair
pub mod Lengths
-- final classes in the list of the code
pub mod Settling
-- rows and boxes behind the pieces that are there
pub mod OnPieces
-- items whose pieces are on a stack
pub mod Placed
-- their rows put on a stack, and taken from one
pub mod Put
pub mod Taken
-- what a call inside the crate answers
pub mod Answers
-- the steps in which an atom is built
pub mod AtomSteps
-- how an atom is built
pub mod Forms
-- lists without boundaries as runs of pieces with gaps before them
pub mod Runs
