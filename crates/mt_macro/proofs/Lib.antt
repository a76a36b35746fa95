-- indexes in a list whose first tokens are passed
pub mod Indexes
-- lists of items that are read as tokens
pub mod Mapped
-- the first brace without partner, in one pass
pub mod Unmatched
-- macros by their names
pub mod Named
-- the first # that no parameter follows
pub mod Hashes
-- the parameters of a body
pub mod BodyParameters
-- where groups end, and the tokens of pieces
pub mod Ending
-- groups and arguments that are taken
pub mod Taking
-- tokens of one kind are read alike
pub mod SameKinds
-- the tokens of runs
pub mod Runs
-- a stack of runs
pub mod Stacks
-- parts of arguments
pub mod Balances
-- arguments of runs
pub mod Gathers
-- bodies that are filled
pub mod Fillings
-- how far a list is expanded
pub mod Running
-- runs that are put before the rest
pub mod Putting
-- items that name no macro
pub mod Plains
-- steps over runs
pub mod Steps
-- expansion in which tokens of bodies stay as they are
pub mod Unplaced
-- macros with bodies of traced tokens
pub mod TracedBodies
-- entries in the names' order
pub mod Entries
-- lists that expand to themselves
pub mod Itself
-- expansions that are known
mod Worked
