-- numbers in the words of a command line
pub mod NumberLemmas
-- what clap finds in the words
pub mod FoundLemmas
-- the pages of ranges
pub mod RangeLemmas
-- what small command lines ask for
mod RequestCases
