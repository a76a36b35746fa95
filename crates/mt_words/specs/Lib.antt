-- what the words of a command line ask for
pub mod Request
-- the command line, as clap reads it
pub mod CommandLine
-- the pages that ranges name
pub mod Ranges
-- the numbers of words
pub mod Decimal
-- steps that may give nothing
pub mod Optional
-- the values of a request
pub mod RequestValues
-- the width of a line by default, and how many pages and files may be named
pub mod Limits
