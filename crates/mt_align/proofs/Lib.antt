-- the items of lists
pub mod Items
-- the widths of columns
pub mod ColumnWidths
-- rows one below another, gone through downward
pub mod Rows
-- cells that become one layout, gone through from the last one on
pub mod Joining
-- where the cells of that layout are
pub mod Placed
-- the layouts of both looks
pub mod Tables
-- the marks of boxes, pushed one by one
pub mod Pushed
-- the levels of boxes of cells
pub mod BoxLevels
