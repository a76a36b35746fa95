-- how much a macro, a list and an expansion may be
pub mod Limits
-- braces and their partners
pub mod Braces
-- parameters in a body
pub mod Parameters
-- macros by their names
pub mod Table
-- tokens and macros without places
pub mod Placeless
-- which tokens name macros
pub mod Naming
-- what a definition makes of a table
pub mod Definition
-- the arguments of a macro, and its body with them in it
pub mod Arguments
-- what a list expands to
pub mod Expansion
-- what it expands to where tokens of bodies are put as calls say
pub mod PlacedExpansion
-- what an item is read as where it is put
pub mod Origins
-- traced tokens
pub mod Traced
-- the numbers and places of errors
pub mod Errors
-- of steps and lent tokens: only inner contracts cite it
pub mod inner
