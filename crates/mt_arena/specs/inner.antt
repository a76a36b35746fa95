-- what the fields of an arena are seen as, and what they keep
pub mod Backward
-- an arena's value as steps that build it
pub mod Coding
