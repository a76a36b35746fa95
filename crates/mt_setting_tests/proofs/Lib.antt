-- lists that the tests make, an atom at a time
pub mod Lists
-- rows for packers
pub mod Packable
