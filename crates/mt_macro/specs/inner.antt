-- where groups end, and the tokens of pieces
pub mod Ends
-- where lists leave the group in which they are
pub mod Closings
-- how long runs are
pub mod Lengths
-- the tokens of runs
pub mod Runs
-- a body with arguments in place of its parameters, as runs
pub mod Fillings
-- the parameters of a body
pub mod Bodies
-- what is taken of the tokens that are left
pub mod Taking
-- what became of a macro in a step
pub mod Replacing
-- tokens that name no macro
pub mod Passing
-- marks of names
pub mod Marks
-- the entries of the macros
pub mod Entries
-- what the macros keep
pub mod Kept
-- macros with bodies of traced tokens
pub mod Tracing
