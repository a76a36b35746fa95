-- layouts one on another, as lists of nodes
pub mod Layering
-- those that are put on others and taken off
pub mod StartLists
-- what calls do to them
pub mod LayerCalls
-- layouts in the middle of a width
pub mod Centred
-- the loops over the parts of a row
pub mod RowSums
-- rows of layouts and gaps
pub mod RowLayers
-- a run of them copied, and one of them read
pub mod CopiedRuns
