-- which final classes two neighbours can have
pub mod Meeting
-- the spaces by the names of the code
pub mod Gaps
