-- roles of names
pub mod Roled
-- words and macros under a table of names that grows
pub mod Growing
-- the macros of names by their numbers
pub mod Found
-- a place among names in order
pub mod Searching
-- a macro is put under the number of its name
pub mod Puts
-- how many names are the user's own
pub mod Counting
-- macros of which the bodies are tokens are put in
pub mod Loads
-- words that are read from a source
pub mod AddedWords
