-- numbers in bytes
pub mod Numbers
-- what is left of a file gives the answer
pub mod Walk
-- the machine's registers
pub mod MachineLemmas
-- what is kept of a file after an operation
pub mod OpenFiles
-- what the next opcode does
pub mod Turns
-- where faults are
pub mod Offsets
-- what `read_dvi` keeps of a file, and its answers
pub mod KeptLemmas
-- how many operands an opcode has
pub mod Sizes
-- which opcodes are which operations
pub mod Decoded
-- one definition of a font more
pub mod DefinedLemmas
-- the opcodes of runs
pub mod Runs
