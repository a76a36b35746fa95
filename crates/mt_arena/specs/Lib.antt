-- what contracts see of an arena, and the lists of its spans
pub mod Arena
-- what the lists in an arena keep
pub mod Keeping
-- what is left of a list, with choices' lists in front of it
pub mod Rest
-- how the fields of an arena are seen: only the type cites it
pub mod inner
-- formulas in an arena
pub mod Formulas
