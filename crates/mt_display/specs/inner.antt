-- what the lines so far leave, and what one more line adds
pub mod NextLines
-- the widths of a display as the code has them
pub mod Fits
-- rows of a display as entries of a column
pub mod OpenRows
-- the widths and the pieces of equations
pub mod EquationRows
-- displays and numbers set on a stack of pieces
pub mod OnStack
