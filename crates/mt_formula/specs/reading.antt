-- runs of items that carry their last atom
pub mod Carried
-- what items keep
pub mod Facts
-- what the reading of an action answers
pub mod Actions
-- how rows begin and end
pub mod Rows
-- items in an arena
pub mod Inside
-- what becomes of a list where no item is
pub mod Ends
-- primes and the argument after them
pub mod Arguments
-- atoms in an arena
pub mod Noads
-- lists that are read whole
pub mod WholeLists
-- what an action gives
pub mod Givens
-- why a formula is not read on
pub mod Stops
-- what the reading of a part answers
pub mod Reads
-- tables of which some cells and rows are read
pub mod Tables
-- formulas in an arena
pub mod Formulas
