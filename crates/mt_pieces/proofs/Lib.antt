-- parts and layers, with a part more and without
pub mod Laid
-- the last pieces, and those before them
pub mod Split
-- a box in place of other pieces
pub mod Settled
-- what is reported of each piece
pub mod Alike
-- the last piece
pub mod LastPieces
-- a lone box is clean
pub mod Clean
-- parts of formulas in place of the last pieces
pub mod Parted
-- numbers of parts
pub mod Kept
-- the last parts taken off
pub mod Taken
-- scripts after a nucleus
pub mod Attached
-- a delimiter raised onto the axis
pub mod Boundaries
-- the row of a root in place of the last two pieces
pub mod RootRows
-- limits above and below an operator
pub mod Limited
-- the cells of tables
pub mod Celled
-- their extents, found one by one
pub mod Celling
-- pieces taken out
pub mod Moved
-- runs of pieces copied
pub mod Copied
-- places among pieces
pub mod Placed
-- rows one below another
pub mod Lined
-- pieces taken one after another, from the last one
pub mod Taking
-- a piece that is a box, told by its place
pub mod BoxAt
-- a row put piece by piece
pub mod RowPut
-- a run of pieces put behind all others
pub mod PutBehind
-- what a call that packs tells of setting
pub mod Packed
-- kerns and spaces put between pieces
pub mod Gapped
-- the box of a character and a kern
pub mod GlyphBoxes
