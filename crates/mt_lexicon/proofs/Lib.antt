-- names are found by their numbers
pub mod Numbers
-- the words of names
pub mod Naming
