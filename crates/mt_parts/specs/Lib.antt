-- lines one below another
pub mod LineColumns
-- lines one below another on marks
pub mod LineLayers
-- a body under a rule
pub mod RuledBodies
-- a radical with its degree, packed
pub mod PackedRoots
-- kerns that are tested
pub mod KernTests
-- the pieces of a row on marks
pub mod PiecesOnMarks
