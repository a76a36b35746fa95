-- the character that a word is, and the number of its name
pub mod Code
-- the tokens that words are read as
pub mod Meaning
-- the names of a set
pub mod NamesIn
-- words that are read from a source
pub mod Reading
