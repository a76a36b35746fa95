-- what a call answers that puts a piece in place of others
pub mod Putting
-- what the fields of `Pieces` are seen as: only the type cites it
pub mod inner
-- rows and boxes with scripts
pub mod Attaching
-- the cells of tables as pieces
pub mod Celled
-- places from which runs are copied
pub mod Runs
-- kerns and spaces put between pieces
pub mod Gaps
