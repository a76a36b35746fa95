-- the faults, the numbers and the places of errors, and what they mean in words
pub mod Errors
-- what the reader keeps of a file, and what it tells of the next opcode
pub mod Sees
-- the opcodes that most of a page is made of
pub mod Runs
-- what an operation does to the pages of a file
pub mod Deeds
-- the opcode at an offset
pub mod OpcodeAt
-- of the reader's inner functions
pub mod inner
