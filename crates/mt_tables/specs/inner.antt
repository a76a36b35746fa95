-- what names are in a formula, by their numbers
pub mod NameRoles
-- macros that are kept by the numbers of their names
pub mod KeptMacros
-- places of names among names in order
pub mod Places
