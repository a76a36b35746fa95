-- the bytes by which the writer states an operation
pub mod Emits
-- where the machine is after the first bytes of a file, and what a part of the writer adds to them
pub mod LeadsTo
-- what the registers of an axis hold, and how an amount is moved by
pub mod HeldAmounts
-- the greatest edges of places
pub mod Greatest
-- the opcodes of a page so far, and what a part of the writer adds to them
pub mod Stands
-- what is written between the pages and after them
pub mod Pages
-- that a list holds no font twice
pub mod Distinct
