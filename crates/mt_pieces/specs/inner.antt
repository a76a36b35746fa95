-- the pieces of parts and of the layouts one on another
pub mod View
-- the last parts
pub mod LastParts
-- the last parts taken off
pub mod Taken
-- the parts of cells
pub mod Cells
-- the parts of what comes between pieces
pub mod GapParts
