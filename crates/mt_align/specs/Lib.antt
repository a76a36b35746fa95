-- the layouts of cells, and the level of their table
pub mod Cells
-- the cells of a table on marks
pub mod CellLayers
-- what differs between a matrix and equations
pub mod Looks
-- a row of cells
pub mod CellRows
-- rows one below another
pub mod RowLines
-- cells that are moved to their places and become one layout
pub mod CellsJoined
