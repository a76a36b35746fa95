-- which coordinates a page has
pub mod Reach
-- what the reader keeps of an operation
pub mod Operations
-- the fonts of a file by their numbers
pub mod Numbered
-- what it keeps of the fonts that a file defines
pub mod Defined
-- what its machine does
pub mod Performs
-- what an operation does to what it keeps of a file
pub mod Follows
-- what `read_dvi` keeps of the places of a file
pub mod Kept
