-- a table of names by slots
pub mod Buckets
