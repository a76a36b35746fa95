-- the names that most proofs cite
mod Common
-- from the widths of a display to its lines
pub mod Displaying
-- rows one below another in one line
pub mod OpenRows
-- rows made one after another
pub mod RowMaps
-- the pieces of a row in a line
pub mod RowPieces
-- a row that is in range is packed, or memory runs out
pub mod PackedRows
-- the widths of both sides of equations
pub mod EquationSides
-- lines and pieces on one stack
pub mod LineStacks
-- lines put on it and taken off
pub mod TakenLines
-- lines put on a page, one after another
pub mod Stacking
-- what the places of rows have, those of their lines and of a page have too
pub mod PagePlaces
-- the definitions on worked lines
mod Worked
-- and on worked displays
mod WorkedDisplays
-- and on worked displays of several lines
mod WorkedRows
