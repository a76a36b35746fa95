-- where a byte of a text is, and the line in which it is
pub mod Positions
-- which columns of a long line are shown
pub mod Windows
-- places in a text
pub mod Places
