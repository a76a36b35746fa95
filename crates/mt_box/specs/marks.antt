-- layouts one on another, and what calls do to them
pub mod Layers
-- what the fields are seen as: only the type cites it
pub mod inner
-- the parts of a row: layouts, gaps and spaces
pub mod RowParts
-- the part and the layout of each piece of a row
pub mod PieceParts
-- layouts in the middle of a width
pub mod Recentred
