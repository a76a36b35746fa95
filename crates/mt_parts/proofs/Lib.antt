-- along the next larger characters of an accent
pub mod Widest
-- the symbol of an accent, and its character
pub mod Finding
-- a small fact of halves
pub mod Clamps
-- lines one below another
pub mod Lining
-- lines that are given as boxes
mod LineBoxes
-- delimiters of fixed sizes
pub mod Bigs
-- a radical with its degree
pub mod Rooting
-- parts on marks
pub mod MarkedParts
-- lines over and under a body on marks
mod MarkedLines
-- fractions on marks
mod Fractions
